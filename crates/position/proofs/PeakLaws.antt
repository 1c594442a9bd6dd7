-- The positions of 1,000 and 10,000 cd/m2 and of the peaks above 1,000, from the entries of the light table around them.
use mathlib.Core.Path.{◌≡◌}
use Prim.Native.Nat.{ℕ, ◌+◌, ◌*◌, ◌≤◌, ◌<◌}
use native.Mathlib.Nat.{le_refl, mul-le-mul_right}
use native.Mathlib.Omega.{arith}
use Rattle.quantity.specs.Units.{units, thousand, ten_thousand, last_position}
use Rattle.pq.specs.LightTable.{light_table, light_entry}
use Rattle.position.specs.Position.{position_of}
use Rattle.position.proofs.PositionLaws.{in_cell_lem, position_grows, past_position}

pub thousand_position : position_of thousand ≡ 674406
unfolding units thousand light_entry light_table
thousand_position = in_cell_lem 2634 (1000 * units) (omega arith) (omega arith) (omega arith)

pub ten_thousand_position : position_of ten_thousand ≡ last_position
ten_thousand_position = past_position ten_thousand (le_refl ten_thousand)

next_position : position_of (1001 * units) ≡ 674504
unfolding units light_entry light_table
next_position = in_cell_lem 2634 (1001 * units) (omega arith) (omega arith) (omega arith)

-- a peak above 1,000 cd/m2 stands 98 positions past 1,000, or more
pub peak_past : (peak : ℕ) → 1000 < peak → 674504 ≤ position_of (peak * units)
peak_past peak h = omega (arith, next_position, position_grows (1001 * units) (peak * units) (mul-le-mul_right units h))

pub peak_apart : (peak : ℕ) → 1000 < peak → position_of thousand + 97 < position_of (peak * units)
peak_apart peak h = omega (arith, thousand_position, peak_past peak h)
