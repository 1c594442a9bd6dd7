-- Laws of the two sides: each is said once for a lower and an upper bound.
use Prim.Native.Nat.{ℕ, ◌*◌, ◌/◌, ◌^◌, ◌<◌}
use native.Mathlib.Nat.{le_refl, le_trans, mul-le-mul, pow-le-pow_left}
use Rattle.laws.specs.Side.{Side, low, high, other, At}
use Rattle.laws.proofs.DivisionLaws.{floor_le, ceiling, le_ceiling}
use Rattle.laws.proofs.FractionLaws.{cross_trans}

pub at_refl : (s : Side) (a : ℕ) → At s a a
at_refl low a = le_refl a
at_refl high a = le_refl a

pub at_trans : (s : Side) (a b c : ℕ) → At s a b → At s b c → At s a c
at_trans low a b c h k = le_trans h k
at_trans high a b c h k = le_trans k h

pub at_mul : (s : Side) (a b c d : ℕ) → At s a b → At s c d → At s (a * c) (b * d)
at_mul low a b c d h k = mul-le-mul h k
at_mul high a b c d h k = mul-le-mul h k

pub at_power : (s : Side) (a b n : ℕ) → At s a b → At s (a ^ n) (b ^ n)
at_power low a b n h = pow-le-pow_left h n
at_power high a b n h = pow-le-pow_left h n

-- what bounds on one side is bounded on the other
pub at_other : (s : Side) (a b : ℕ) → At (other s) a b → At s b a
at_other low a b h = h
at_other high a b h = h

-- a / b to c / d to e / f
pub at_cross_trans : (s : Side) (a b c d e f : ℕ) → 0 < d → At s (a * d) (c * b) → At s (c * f) (e * d) → At s (a * f) (e * b)
at_cross_trans low a b c d e f p h k = cross_trans a b c d e f p h k
at_cross_trans high a b c d e f p h k = cross_trans e f c d a b p k h

-- q / c, rounded to a side
abbrev pub rounded : Side → ℕ → ℕ → ℕ
rounded low q c = q / c
rounded high q c = ceiling q c

pub at_rounded : (s : Side) (q c : ℕ) → 0 < c → At s (rounded s q c * c) q
at_rounded low q c h = floor_le q c
at_rounded high q c h = le_ceiling q c h
