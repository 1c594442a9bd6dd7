-- Laws of powers: small ones as products, powers of products and of powers, and the order of bases.
use mathlib.Core.Path.{◌≡◌, sym, ◌∙◌, ap, ap₂}
use mathlib.Core.Logic.{◌≢◌}
use Prim.Native.Nat.{ℕ, zero, suc, ◌*◌, ◌^◌, ◌≤◌, ◌<◌}
use native.Mathlib.Nat.{le_of_eq, le_antisymm, lt_of_not-le, not-le_of_lt, mul-zero, mul-suc, one-mul, pow-zero, pow-suc, pow-le-pow_left, pow-lt-pow_left}
use native.Mathlib.Decide.{dec_le}
use native.Mathlib.Omega.{arith}
use lib.Pow.{pow-add}

-- small powers as products, which `omega` reads: `simp powers (omega arith)`
pub first : (x : ℕ) → x ^ 1 ≡ x
first x = pow-suc x 0 ∙ ap (λ t. t * x) (pow-zero x) ∙ one-mul x

pub second : (x : ℕ) → x ^ 2 ≡ x * x
second x = pow-suc x 1 ∙ ap (λ t. t * x) (first x)

pub third : (x : ℕ) → x ^ 3 ≡ x * x * x
third x = pow-suc x 2 ∙ ap (λ t. t * x) (second x)

pub fourth : (x : ℕ) → x ^ 4 ≡ x * x * x * x
fourth x = pow-suc x 3 ∙ ap (λ t. t * x) (third x)

pub fifth : (x : ℕ) → x ^ 5 ≡ x * x * x * x * x
fifth x = pow-suc x 4 ∙ ap (λ t. t * x) (fourth x)

pub sixth : (x : ℕ) → x ^ 6 ≡ x * x * x * x * x * x
sixth x = pow-suc x 5 ∙ ap (λ t. t * x) (fifth x)

pub ruleset powers = (first, second, third, fourth, fifth, sixth)

pub of_product : (a b n : ℕ) → (a * b) ^ n ≡ a ^ n * b ^ n
of_product a b zero = pow-zero (a * b) ∙ ap₂ ◌*◌ (sym (pow-zero a)) (sym (pow-zero b))
of_product a b (suc n) = simp pow-suc (omega (arith, ap (λ t. t * (a * b)) (of_product a b n)))

pub of_power : (a m n : ℕ) → (a ^ m) ^ n ≡ a ^ (m * n)
of_power a m zero = pow-zero (a ^ m) ∙ sym (ap (λ z. a ^ z) (mul-zero m) ∙ pow-zero a)
of_power a m (suc n) =
    pow-suc (a ^ m) n ∙ ap (λ z. z * a ^ m) (of_power a m n) ∙ sym (pow-add a (m * n) m) ∙ ap (λ z. a ^ z) (sym (mul-suc m n))

-- bases are ordered as their powers
pub base_lt : {a b : ℕ} (n : ℕ) → a ^ n < b ^ n → a < b
base_lt {a} {b} n h = lt_of_not-le (λ p. not-le_of_lt h (pow-le-pow_left p n))

pub base_le : {a b : ℕ} (n : ℕ) → n ≢ 0 → a ^ n ≤ b ^ n → a ≤ b
base_le {a} {b} n ne h = go (dec_le a b)
  where
    go : Dec (a ≤ b) → a ≤ b
    go (yes p) = p
    go (no p) = absurd (not-le_of_lt (pow-lt-pow_left (lt_of_not-le p) ne) h)

pub base_eq : {a b : ℕ} (n : ℕ) → n ≢ 0 → a ^ n ≡ b ^ n → a ≡ b
base_eq n ne e = le_antisymm (base_le n ne (le_of_eq e)) (base_le n ne (le_of_eq (sym e)))
