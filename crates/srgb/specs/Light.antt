-- The linear light of an eight-bit sRGB value v (request 13; document 004, formula 2): the power 2.2, which is 11/5, of v/255, in 1/2^40 of white's light and
-- rounded down.
use Rattle.std.specs.Prelude.{ℕ, ◌*◌, ◌^◌, ◌≤◌}

-- the two sides of the comparison, both times 255^11: the fifth power of a light s, and that of the exact light of v
abbrev pub light_side : ℕ → ℕ
light_side s = s ^ 5 * 255 ^ 11

abbrev pub value_side : ℕ → ℕ
value_side v = 2 ^ 200 * v ^ 11

-- s is the light of value v: the largest whole number whose power is at most the value's
pub record IsLinearLight (v s : ℕ) : Type 0 where
  pub within : light_side s ≤ value_side v
  pub largest : (t : ℕ) → light_side t ≤ value_side v → t ≤ s
