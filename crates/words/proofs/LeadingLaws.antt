-- The zeros before the first one of a word: what they leave of it, and that only one number does.
use Rattle.std.proofs.Common.{◌≡◌, ℕ, zero, suc, ◌+◌, ◌*◌, ◌^◌, ◌<◌, ◌≤◌, sym, ap, ◌∙◌, le_of_eq, lt_of_lt_of_le, mul-le-mul_right, zero-lt-suc, add_comm}
use Rattle.std.proofs.Common.{le_antisymm, mul-le-mul_left, mul-lt-mul_of_pos_right, arith, pow_pos, pow_mono, pow-add}
use native.Mathlib.Decide.{dec_le}
use lib.Count.{count_leading_zeros, leading_length, leading_of_zero, leading_top}

-- the zeros and the length of x make 64, and x is below 2 to its length: moved up by its zeros it is a word
pub kept : (x : ℕ) → x < 2 ^ 64 → x * 2 ^ count_leading_zeros 64 x < 2 ^ 64
kept x h =
    let t = leading_length 64 x h in
    let z = count_leading_zeros 64 x in
    let whole : 2 ^ t.0 * 2 ^ z ≡ 2 ^ 64 = sym (pow-add 2 t.0 z) ∙ ap (λ (i : ℕ). 2 ^ i) (add_comm t.0 z ∙ t.1) in
    lt_of_lt_of_le (mul-lt-mul_of_pos_right t.2 (pow_pos z)) (le_of_eq whole)

-- and fills it where it is not 0
pub filled : (x : ℕ) → x < 2 ^ 64 → count_leading_zeros 64 x < 64 → 2 ^ 63 ≤ x * 2 ^ count_leading_zeros 64 x
filled zero h l = absurd (omega (arith, leading_of_zero 64))
filled (suc x) h l =
    let t = leading_top 64 (suc x) (zero-lt-suc x) h in
    let z = count_leading_zeros 64 (suc x) in
    let digits : t.0 + z ≡ 63 = omega (arith, t.1) in
    let whole : 2 ^ t.0 * 2 ^ z ≡ 2 ^ 63 = sym (pow-add 2 t.0 z) ∙ ap (λ (i : ℕ). 2 ^ i) digits in
    omega (arith, whole, mul-le-mul_right (2 ^ z) t.2)

-- a number that moves x up within a word is at most one that fills the word with it, or 64
at_most : (x r s : ℕ) → r ≤ 64 → x * 2 ^ r < 2 ^ 64 → (s < 64 → 2 ^ 63 ≤ x * 2 ^ s) → r ≤ s
at_most x r s h k l = go (dec_le r s)
  where
    past : s < r → 2 * (x * 2 ^ s) ≤ x * 2 ^ r
    past g = omega (arith, mul-le-mul_left x (pow_mono {i = s + 1} {j = r} (omega arith)), ap (λ (n : ℕ). x * n) (pow-add 2 s 1))

    go : Dec (r ≤ s) → r ≤ s
    go (yes p) = p
    go (no p) = absurd (omega (arith, past (omega arith), l (omega arith)))

pub zeros_unique : (x r s : ℕ) → (r ≤ 64) × (x * 2 ^ r < 2 ^ 64) × (r < 64 → 2 ^ 63 ≤ x * 2 ^ r)
    → (s ≤ 64) × (x * 2 ^ s < 2 ^ 64) × (s < 64 → 2 ^ 63 ≤ x * 2 ^ s) → r ≡ s
zeros_unique x r s a b = le_antisymm (at_most x r s a.0 a.1 b.2) (at_most x s r b.0 b.1 a.2)
