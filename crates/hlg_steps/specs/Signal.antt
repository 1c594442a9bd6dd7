-- The HLG signal g of a scene light E: BT.2100's HLG OETF (scope, HLG code and The exact value: HLG signal). Both are fractions of their ranges.
-- Its constants are exact decimals, here times 10^8: a = 0.17883277, b = 0.28466892 and c = 0.55991073.
use Rattle.std.specs.Prelude.{◌≡◌, ◌⊎◌, ℕ, ◌-◌, ◌*◌, ◌≤◌, ◌<◌}
use Rattle.laws.specs.Fraction.{Fraction, whole, ◌·◌}
use Rattle.laws.specs.Side.{Side, other, Bounds}
use Rattle.hlg_steps.specs.Exponential.{Exponential}

-- 12E − b is inner_num E / inner_den E; 0 where it is 0 or less
unfoldable pub inner_num : Fraction → ℕ
inner_num E = 12 * E.num * 100000000 - 28466892 * E.den

unfoldable pub inner_den : Fraction → ℕ
inner_den E = E.den * 100000000

-- (g − c)/a is above_c g / slope g where it is 0 or more, and −(below_c g / slope g) where it is less
unfoldable pub above_c : Fraction → ℕ
above_c g = g.num * 100000000 - 55991073 * g.den

unfoldable pub below_c : Fraction → ℕ
below_c g = 55991073 * g.den - g.num * 100000000

unfoldable pub slope : Fraction → ℕ
slope g = 17883277 * g.den

-- g is on the side s of a ln(12E − b) + c, so exp((g − c)/a) on that side of 12E − b. A negative exponent goes by reciprocals, on the
-- other side; a 12E − b of 0 or less then stands below the exponential only
unfoldable pub Logarithm : Side → Fraction → Fraction → Type 0
Logarithm s E g =
    ((below_c g ≡ 0) × Exponential (other s) (inner_num E) (inner_den E) (above_c g) (slope g)) ⊎
    ((0 < below_c g) × Exponential s (inner_den E) (inner_num E) (below_c g) (slope g))

-- the root of 3E where E is at most 1/12, else the logarithm
unfoldable pub HlgSignal : Side → Fraction → Fraction → Type 0
HlgSignal s E g = ((12 * E.num ≤ E.den) × Bounds s (g · g) (whole 3 · E)) ⊎ ((E.den < 12 * E.num) × Logarithm s E g)
