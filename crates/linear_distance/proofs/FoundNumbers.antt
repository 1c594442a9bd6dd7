-- The numbers of these proofs that were found by trial on the tables. A law or a computed test shows each; tools/slack.py tells how much room it has.
use Prim.Native.Nat.{ℕ, ◌+◌, ◌*◌}
use Rattle.bent_lights.proofs.FoundNumbers.{points_apart}
use Rattle.distance.proofs.FoundNumbers.{positions_off}

-- from so many units on the whole part of a light is near enough to it; less is dim. The least luminance of a pixel that has it, in ten-thousandths
abbrev pub lit_units : ℕ
lit_units = 41

abbrev pub lit_units_luminance : ℕ
lit_units_luminance = 593 * lit_units

-- scene light that a unit takes at that luminance, and what no dim light exceeds; in 1/2^40
abbrev pub unit_slope : ℕ
unit_slope = 2860

abbrev pub dim_scene : ℕ
dim_scene = 117300

-- the least position that is not left by the curve a code below the knee, under the highest peak; and a cell of the light table below it from which on
-- each rises by a unit a position or more
abbrev pub least_unleft : ℕ
least_unleft = 562074

abbrev pub steep_cell : ℕ
steep_cell = 2190

-- positions from a bent position to a point on the far side of X's fractions, which lie a cell and a position off the engine's at most
abbrev pub linear_reach : ℕ
linear_reach = positions_off + points_apart + 257
