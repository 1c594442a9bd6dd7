-- The whole part of t − n/d, said without a subtraction, from the quotient of a truncated difference.
use mathlib.Core.Path.{◌≡◌}
use Prim.Native.Nat.{ℕ, ◌+◌, ◌-◌, ◌*◌, ◌/◌, ◌≤◌, ◌<◌}
use native.Mathlib.Nat.{le_antisymm, lt_of_mul-lt-mul_left}
use native.Mathlib.Omega.{arith}
use Rattle.laws.proofs.DivisionLaws.{floor_le, lt_floor}

-- s ≤ t − n/d < s + 1, times d
pub record FloorOfDifference (t n d s : ℕ) : Type 0 where
  pub low : d * s + n ≤ d * t
  pub high : d * t < d * (s + 1) + n

pub floor_quotient : (t n d : ℕ) → 0 < d → n ≤ d * t → FloorOfDifference t n d ((d * t - n) / d)
floor_quotient t n d p h =
    let s = (d * t - n) / d in
    record { low = omega (arith, floor_le (d * t - n) d); high = omega (arith, lt_floor (d * t - n) d p) }

-- it falls as n grows
pub floor_falls : (t n k d r s : ℕ) → k ≤ n → FloorOfDifference t n d r → FloorOfDifference t k d s → r ≤ s
floor_falls t n k d r s h f g = omega (arith, lt_of_mul-lt-mul_left d {m = r} {n = s + 1} (omega (arith, f.low, g.high)))

-- so there is only one
pub floor_unique : (t n d r s : ℕ) → FloorOfDifference t n d r → FloorOfDifference t n d s → r ≡ s
floor_unique t n d r s f g = le_antisymm (floor_falls t n n d r s (omega arith) f g) (floor_falls t n n d s r (omega arith) g f)
