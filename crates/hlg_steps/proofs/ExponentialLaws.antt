-- Numbers against the exponential: a test by 32 partial sums with its soundness, and how the two sides are ordered.
use mathlib.Core.Path.{◌≡◌, ap, ◌∙◌}
use mathlib.Core.Bool.{Bool, ◌&&◌}
use Prim.Native.Nat.{ℕ, suc, ◌+◌, ◌*◌, ◌^◌, ◌≤◌, ◌<◌}
use native.Mathlib.Nat.{le_trans, le_of_eq, not-le_of_lt, mul-le-mul_left, mul-le-mul_right, mul-pos, mul-zero, one-le-pow}
use native.Mathlib.Decide.{dec_le}
use native.Mathlib.Omega.{arith}
use lib.Dec.{T, leb, leb→le}
use lib.Ieee.Fits.{and_l, and_r}
use Rattle.laws.specs.Side.{Side, low, high, At}
use Rattle.laws.proofs.PowerLaws.{first}
use Rattle.laws.proofs.FractionLaws.{cross_trans}
use Rattle.hlg_steps.specs.Exponential.{sum_num, sum_den, Exponential}
use Rattle.hlg_steps.proofs.SeriesLaws.{den_pos, sums_grow, Covers, every_sum}

-- x / z at most the sum up to y³²/32!, or at least that sum with its last term once more
abbrev pub exponential_test : Side → ℕ → ℕ → ℕ → ℕ → Bool
exponential_test low x z p q = leb (x * sum_den q 32) (sum_num p q 32 * z)
exponential_test high x z p q = leb (2 * p) (33 * q) && leb ((sum_num p q 32 + p ^ 32) * z) (x * sum_den q 32)

pub exponential_test_lem : (s : Side) (x z p q : ℕ) → 0 < q → T (exponential_test s x z p q) → Exponential s x z p q
unfolding Exponential Covers
exponential_test_lem low x z p q h t = (32, leb→le _ _ t)
exponential_test_lem high x z p q h t =
    let halves = leb (2 * p) (33 * q) in
    let covers = leb ((sum_num p q 32 + p ^ 32) * z) (x * sum_den q 32) in
    every_sum p q x z 32 h (leb→le _ _ (and_l halves covers t)) (leb→le _ _ (and_r halves covers t))

-- a number at most an exponential is at most a larger one, and so for the other side
pub exponent_moves : (s : Side) (x z p q p' q' : ℕ) → 0 < q → At s (p * q') (p' * q) → Exponential s x z p q → Exponential s x z p' q'
unfolding Exponential
exponent_moves low x z p q p' q' hq h e =
    let n = e.0 in
    (n, cross_trans x z (sum_num p q n) (sum_den q n) (sum_num p' q' n) (sum_den q' n) (den_pos q n hq) e.1 (sums_grow p q p' q' n h))
exponent_moves high x z p q p' q' hq h e =
    λ n. cross_trans (sum_num p' q' n) (sum_den q' n) (sum_num p q n) (sum_den q n) x z (den_pos q n hq) (sums_grow p' q' p q n h) (e n)

-- only exp 0 has a number on both sides
pub both_sides : (x z p q : ℕ) → 0 < z → Exponential high x z p q → Exponential low x z p q → p ≡ 0
unfolding Exponential
both_sides x z p q hz all some = go (dec_le 1 p)
  where
    n : ℕ
    n = some.0

    next : (sum_num p q n * (suc n * q) + p ^ suc n) * z ≤ x * (sum_den q n * (suc n * q))
    next = unfold sum_num sum_den in all (suc n)

    none : p ^ suc n * z ≤ 0
    none = omega (arith, mul-le-mul_right (suc n * q) some.1, next)

    go : Dec (1 ≤ p) → p ≡ 0
    go (yes y) = absurd (not-le_of_lt (mul-pos (one-le-pow (suc n) p y) hz) none)
    go (no y) = omega arith

-- what is at least one exponential and at most another orders their exponents
pub exponents_ordered : (x z p q p' q' : ℕ) → 0 < z → 0 < q' → Exponential high x z p q → Exponential low x z p' q' → p * q' ≤ p' * q
exponents_ordered x z p q p' q' hz hq' a b = go (dec_le (p * q') (p' * q))
  where
    none : p' * q ≤ p * q' → p ≡ 0
    none h = both_sides x z p q hz a (exponent_moves low x z p' q' p q hq' h b)

    go : Dec (p * q' ≤ p' * q) → p * q' ≤ p' * q
    go (yes y) = y
    go (no y) = omega (arith, ap (λ (n : ℕ). n * q') (none (omega arith)))

-- exp 0 is 1: a number on a side of an exponential is on that side of 1, and 1 on that side of a larger or smaller one
pub at_least_one : (x z p q : ℕ) → Exponential high x z p q → z ≤ x
unfolding Exponential sum_num sum_den
at_least_one x z p q h = omega (arith, h 0)

pub by_one : (x z p q : ℕ) → x ≤ z → Exponential low x z p q
unfolding Exponential sum_num sum_den
by_one x z p q h = (0, omega arith)

-- what is at most an exponential has a denominator above 0
pub low_pos : (x z p q : ℕ) → 0 < x → 0 < q → Exponential low x z p q → 0 < z
unfolding Exponential
low_pos x z p q hx hq h = go (dec_le 1 z)
  where
    go : Dec (1 ≤ z) → 0 < z
    go (yes y) = y
    go (no y) =
        let e : z ≡ 0 = omega arith in
        absurd (not-le_of_lt (mul-pos hx (den_pos q h.0 hq)) (le_trans h.1
        (le_of_eq (ap (λ (n : ℕ). sum_num p q h.0 * n) e ∙ mul-zero (sum_num p q h.0)))))

-- a number at least an exponential is at least 1 + y
at_least_two_terms : (x z p q : ℕ) → Exponential high x z p q → (q + p) * z ≤ x * q
unfolding Exponential sum_num sum_den
at_least_two_terms x z p q h =
    let two : (1 * (1 * q) + p ^ 1) * z ≤ x * (1 * (1 * q)) = h 1 in
    let sum : (1 * (1 * q) + p) * z ≤ x * (1 * (1 * q)) = rw (first p) at two in
    omega arith

-- no number is at least exp of 0 or more and at most exp of less than 0
pub not_across : (x z p q p' q' : ℕ) → 0 < z → 0 < p' → Exponential high x z p q → ¬ (Exponential high z x p' q')
not_across x z p q p' q' hz hp a b =
    not-le_of_lt (mul-pos hp hz) (omega (arith, at_least_two_terms z x p' q' b, mul-le-mul_left (q' + p') (at_least_one x z p q a)))
