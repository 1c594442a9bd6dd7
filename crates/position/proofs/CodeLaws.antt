-- Laws of code values of every depth and range: where their signals and positions lie, and that position and light grow with the code.
use mathlib.Core.Path.{◌≡◌, refl, sym, ◌∙◌, ap}
use mathlib.Core.List.{List}
use Prim.Native.Nat.{ℕ, max, min, ◌+◌, ◌-◌, ◌*◌, ◌/◌, ◌≤◌}
use native.Mathlib.Nat.{mul-le-mul_left, le_of_mul-le-mul_right, zero-div}
use native.Mathlib.Omega.{arith}
use Rattle.laws.specs.Fraction.{◌≼◌, ◌≺◌}
use Rattle.laws.proofs.DivisionLaws.{floor_le, lt_floor, floor_grows}
use Rattle.quantity.specs.Units.{last_position}
use Rattle.quantity.specs.declared.sample_format.Depth.{Depth}
use Rattle.quantity.specs.declared.sample_format.Depth.TheVariants.{Ten, Twelve}
use Rattle.quantity.specs.declared.sample_format.Range.{Range}
use Rattle.quantity.specs.declared.sample_format.Range.TheVariants.{Narrow, Full}
use Rattle.quantity.specs.declared.sample_format.SampleFormat.{SampleFormat}
use Rattle.quantity.specs.SampleFormat.{last_code, excursion, coded}
use Rattle.pq.specs.Pq.{entry_in, position_signal}
use Rattle.pq.specs.LightTable.{light_table, light_entry}
use Rattle.position.specs.Position.{light_at_in, light_at}
use Rattle.position.specs.Code.{above_black, excursion_pos, code_signal, code_position, code_light_in, code_light}
use Rattle.position.proofs.LightLaws.{entry_in_lem, light_grows, first_light_lem}

-- a code lies above black by no more than the excursion, and by more where it is larger
pub above_le : (f : SampleFormat) (D : ℕ) → above_black f D ≤ excursion f
above_le f D = omega arith

pub excursion_most : (f : SampleFormat) → excursion f ≤ 4095
excursion_most f = go f.depth f.range
  where
    go : (d : Depth) (r : Range) → excursion (coded d r) ≤ 4095
    go Ten Narrow = omega arith
    go Ten Full = omega arith
    go Twelve Narrow = omega arith
    go Twelve Full = omega arith

above_grows : (f : SampleFormat) (D E : ℕ) → D ≤ E → above_black f D ≤ above_black f E
above_grows f D E h = omega arith

-- a signal lies at its position, or between it and the next
pub from_position : (f : SampleFormat) (D : ℕ) → position_signal (code_position f D) ≼ code_signal f D
from_position f D = record { cross = omega (arith, floor_le (897024 * above_black f D) (excursion f)) }

pub to_position : (f : SampleFormat) (D : ℕ) → code_signal f D ≺ position_signal (code_position f D + 1)
to_position f D = record { cross = omega (arith, lt_floor (897024 * above_black f D) (excursion f) (excursion_pos f)) }

pub position_range : (f : SampleFormat) (D : ℕ) → code_position f D ≤ last_position
unfolding last_position
position_range f D =
    le_of_mul-le-mul_right {k = excursion f} (omega (arith, floor_le (897024 * above_black f D) (excursion f), above_le f D)) (excursion_pos f)

pub code_light_at : (f : SampleFormat) (D : ℕ) → code_light f D ≡ light_at (code_position f D)
unfolding code_light
code_light_at f D = refl

-- black has the position 0 and no light
pub black_position : (f : SampleFormat) (D : ℕ) → above_black f D ≡ 0 → code_position f D ≡ 0
black_position f D e = rw e (zero-div (excursion f))

pub black_light : (f : SampleFormat) (D : ℕ) → above_black f D ≡ 0 → code_light f D ≡ 0
unfolding code_light
black_light f D e = ap light_at (black_position f D e) ∙ first_light_lem

-- position and light grow with the code
pub code_position_grows : (f : SampleFormat) (D E : ℕ) → D ≤ E → code_position f D ≤ code_position f E
code_position_grows f D E h = floor_grows _ _ (excursion f) (mul-le-mul_left 897024 (above_grows f D E h))

pub code_light_grows : (f : SampleFormat) (D E : ℕ) → D ≤ E → code_light f D ≤ code_light f E
unfolding code_light
code_light_grows f D E h = light_grows (code_position f D) (code_position f E) (code_position_grows f D E h)

-- ---- in narrow range a position is that of an index of the light table, so many of which each code has
abbrev pub indices : Depth → ℕ
indices Ten = 4
indices Twelve = 1

pub narrow_position : (d : Depth) (D : ℕ) → code_position (coded d Narrow) D ≡ 256 * (indices d * above_black (coded d Narrow) D)
narrow_position Ten D = omega arith
narrow_position Twelve D = omega arith

module _ (P : ℕ → ℕ) (f : SampleFormat) (D : ℕ) (e : f.range ≡ Narrow) where
  index : code_position f D ≡ 256 * (indices f.depth * above_black f D)
  index = rw e (narrow_position f.depth D)

  -- so its light, on any table, is an entry
  pub narrow_light : P (indices f.depth * above_black f D) ≡ code_light_in P f D
  narrow_light = sym (ap (light_at_in P) index ∙ entry_in_lem P (indices f.depth * above_black f D))

-- the formulas of scope and request
pub ten_narrow : (D : ℕ) → code_position (coded Ten Narrow) D ≡ 1024 * (min (max D 64) 940 - 64)
ten_narrow D = omega arith

pub twelve_narrow : (D : ℕ) → code_position (coded Twelve Narrow) D ≡ 256 * (min (max D 256) 3760 - 256)
twelve_narrow D = omega arith

pub full : (d : Depth) (D : ℕ) → D ≤ last_code d → code_position (coded d Full) D ≡ 897024 * D / last_code d
full d D h = let e : above_black (coded d Full) D ≡ D = omega arith in rw e refl

-- what is read off a table that is the light table
pub lent_code_light : (t : List ℕ) (f : SampleFormat) (D : ℕ) → t ≡ light_table → code_light_in (entry_in t) f D ≡ code_light f D
unfolding code_light light_at light_entry
lent_code_light t f D e = ap (λ (s : List ℕ). code_light_in (entry_in s) f D) e
