-- `linear_vectors::value_of` is safe: the pattern that is left is a number's.
use mathlib.Core.Path.{◌≡◌, refl}
use mathlib.Core.Bool.{Bool, true, false, not, ◌&&◌}
use Prim.Native.Nat.{ℕ, ◌%◌, ◌/◌}
use native.Mathlib.Omega.{arith}
use lib.Dec.{T, eqb}
use lib.Ieee.{nan_bits}
use borrow.Author.Tests.{eqb-true, eqb-false}
use Rattle.linear_vectors.proofs.value_of.Goals as goal

-- either the exponent is not all ones, or no digit stands
number : (a b : Bool) (n m : ℕ) → eqb n 255 ≡ a → eqb m 0 ≡ b → (n ≡ 255 → m ≡ 0) → T (not (a && not b))
number false b n m e f h = tt
number true true n m e f h = tt
number true false n m e f h = absurd (eqb-false m 0 f (h (eqb-true n 255 e)))

pub float_from_bits-result : goal.float_from_bits-result
unfolding nan_bits
float_from_bits-result c =
    let b = c.args.bits in
    number (eqb (b % 2147483648 / 8388608) 255) (eqb (b % 8388608) 0) (b % 2147483648 / 8388608) (b % 8388608) refl refl (λ h. omega arith)
