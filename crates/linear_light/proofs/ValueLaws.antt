-- Laws of values: what a format's digits say of a 32-bit float, that its size is a whole number of 1/2^149 cd/m2, and the range of values as they count.
use Rattle.std.proofs.Common.{◌≡◌, ℕ, zero, suc, ◌+◌, ◌-◌, ◌*◌, ◌/◌, ◌%◌, ◌^◌, ◌<◌, ◌≤◌, Bool, true, false, cond, not, ◌&&◌, T, eqb, ltb, leb, ℤ, pos, negsuc}
use Rattle.std.proofs.Common.{sym, refl, ap, ◌∙◌, subst, mul-le-mul_right, mul_assoc, mul_comm, mul-pos, one-mul, zero-mul, mul-one, not-le_of_lt}
use Rattle.std.proofs.Common.{mul-div_cancel, arith, lit<, lit≤, eqb→eq, ltb→lt, leb→le, pow_pos, pow-add, ltb-false}
use native.Mathlib.Nat.{zero-div, div-le_of_le-mul}
use lib.Dec.{nleb→lt}
use lib.Pow.{pow-lt}
use lib.Ieee.{Float, nan, inf, fin, up, down, fits, binary32, lt}
use lib.Ieee.Fits.{and_l, and_r}
use Rattle.quantity.specs.Units.{units, ten_thousand}
use Rattle.linear_light.specs.declared.LightClass.TheVariants.{Light, Negative, TooBright}
use Rattle.linear_light.specs.LinearLight.{no_light, most_light, class_of, counted_as, magnitude, exact_light, whole_light}

-- ---- the digits of a 32-bit float
-- an exponent that the format has
pub within : (k n : ℕ) → 2 ^ k ≤ 2 ^ n → k ≤ n
within k n h = cases (leb k n) refl
  where
    cases : (b : Bool) → leb k n ≡ b → k ≤ n
    cases true e = leb→le k n (subst T (sym e) tt)
    cases false e = absurd (not-le_of_lt (pow-lt (nleb→lt k n (subst (λ (b : Bool). T (not b)) (sym e) tt))) h)

-- at most 24 digits, from 2^-149 to below 2^128
pub held : (s : Bool) (m : ℕ) (e : ℤ) → T (fits binary32 (fin s m e)) → (m < 2 ^ 24) × (down e ≤ 2 ^ 149) × (m * up e < 2 ^ 128 * down e)
unfolding fits
held s zero (pos k) t = (lit< tt, lit≤ tt, subst (λ (x : ℕ). x < 2 ^ 128 * 1) (sym (zero-mul (2 ^ k))) (lit< tt))
held s zero (negsuc k) t =
    let u : 1 * 2 ^ suc k ≡ 1 = eqb→eq (1 * 2 ^ suc k) 1 t in
    let v : 2 ^ suc k ≡ 1 = sym (one-mul (2 ^ suc k)) ∙ u in
    (lit< tt, subst (λ (x : ℕ). x ≤ 2 ^ 149) (sym v) (lit≤ tt), mul-pos (lit< tt) (pow_pos (suc k)))
held s (suc m) e t =
    let b1 = eqb (suc m % 2) 1 in
    let b2 = ltb (suc m) (2 ^ 24) in
    let b3 = leb (down e) (2 ^ 149) in
    let b4 = ltb (suc m * up e) (2 ^ 128 * down e) in
    let a = and_l (b1 && b2 && b3) b4 t in
    let b = and_l (b1 && b2) b3 a in (
      ltb→lt (suc m) (2 ^ 24) (and_r b1 b2 b),
      leb→le (down e) (2 ^ 149) (and_r (b1 && b2) b3 a),
      ltb→lt (suc m * up e) (2 ^ 128 * down e) (and_r (b1 && b2 && b3) b4 t),
    )

-- ---- a size is a whole number of 1/2^149 cd/m2: nothing is lost where it is divided
divided : (a z d k : ℕ) → 0 < d → z ≡ k * d → a * z / d * d ≡ a * z
divided a z d k p e =
    let s : a * z ≡ a * k * d = ap (λ (x : ℕ). a * x) e ∙ sym (mul_assoc a k d) in
    ap (λ (x : ℕ). x / d * d) s ∙ ap (λ (x : ℕ). x * d) (mul-div_cancel (a * k) p) ∙ sym s

pub magnitude_exact : (s : Bool) (m : ℕ) (e : ℤ) → T (fits binary32 (fin s m e)) → magnitude (fin s m e) * down e ≡ m * up e * 2 ^ 149
unfolding magnitude
magnitude_exact s m (pos k) t = divided (m * 2 ^ k) (2 ^ 149) 1 (2 ^ 149) (lit< tt) (sym (mul-one (2 ^ 149)))
magnitude_exact s m (negsuc k) t =
    let l : suc k ≤ 149 = within (suc k) 149 (held s m (negsuc k) t).1 in
    let j : 149 - suc k + suc k ≡ 149 = omega arith in
    divided (m * 1) (2 ^ 149) (2 ^ suc k) (2 ^ (149 - suc k)) (pow_pos (suc k)) (sym (sym (pow-add 2 (149 - suc k) (suc k)) ∙ ap (λ (x : ℕ). 2 ^ x) j))

-- ---- values as they count lie from 0 to 10,000, or are no number
counted_of : (x : Float) (a b : Bool) → lt x no_light ≡ a → lt most_light x ≡ b
    → let y = counted_as (cond a (Negative x) (cond b (TooBright x) (Light x))) in (lt y no_light ≡ false) × (lt most_light y ≡ false)
unfolding lt
counted_of x true b e f = (refl, refl)
counted_of x false true e f = (refl, refl)
counted_of x false false e f = (e, f)

pub counted_within : (x : Float) → (lt (counted_as (class_of x)) no_light ≡ false) × (lt most_light (counted_as (class_of x)) ≡ false)
unfolding class_of
counted_within x = counted_of x (lt x no_light) (lt most_light x) refl refl

-- a value that is neither below nor above 0 has no size
pub no_magnitude : (x : Float) → lt x no_light ≡ false → lt no_light x ≡ false → magnitude x ≡ 0
unfolding magnitude lt
no_magnitude nan a b = refl
no_magnitude (inf s) a b = refl
no_magnitude (fin true m e) a b =
    let z : m * up e ≡ 0 = omega (arith, ltb-false 0 (m * up e * 1 + 0 * 1 * down e) a) in
    ap (λ (n : ℕ). n * 2 ^ 149 / down e) z ∙ ap (λ (n : ℕ). n / down e) (zero-mul (2 ^ 149)) ∙ zero-div (down e)
no_magnitude (fin false m e) a b =
    let z : m * up e ≡ 0 = omega (arith, ltb-false (0 * 1 * down e) (m * up e * 1) b) in
    ap (λ (n : ℕ). n * 2 ^ 149 / down e) z ∙ ap (λ (n : ℕ). n / down e) (zero-mul (2 ^ 149)) ∙ zero-div (down e)

-- one that is not above 10,000 has at most that size, and its light is at most that light
size_at_most : (a z d : ℕ) → a ≤ 10000 * d → a * z / d ≤ 10000 * z
size_at_most a z d h = div-le_of_le-mul d (omega (arith, mul-le-mul_right z h))

magnitude_at_most : (x : Float) → lt x no_light ≡ false → lt most_light x ≡ false → magnitude x ≤ 10000 * 2 ^ 149
unfolding magnitude lt
magnitude_at_most nan a b = lit≤ tt
magnitude_at_most (inf s) a b = lit≤ tt
magnitude_at_most (fin true m e) a b =
    size_at_most (m * up e) (2 ^ 149) (down e) (omega (arith, ltb-false 0 (m * up e * 1 + 0 * 1 * down e) a))
magnitude_at_most (fin false m e) a b =
    size_at_most (m * up e) (2 ^ 149) (down e) (omega (arith, ltb-false (625 * 2 ^ 4 * down e) (m * up e * 1) b))

scaled : (n z u : ℕ) → n ≤ 10000 * z → n * u ≤ 10000 * u * z
scaled n z u h = omega (arith, mul-le-mul_right u h)

pub exact_at_most : (x : Float) → exact_light x ≤ ten_thousand * 2 ^ 149
unfolding exact_light ten_thousand
exact_at_most x =
    let c = counted_within x in
    scaled (magnitude (counted_as (class_of x))) (2 ^ 149) units (magnitude_at_most (counted_as (class_of x)) c.0 c.1)

pub whole_at_most : (x : Float) → whole_light x ≤ ten_thousand
unfolding whole_light
whole_at_most x = div-le_of_le-mul (2 ^ 149) (subst (λ (n : ℕ). exact_light x ≤ n) (mul_comm ten_thousand (2 ^ 149)) (exact_at_most x))
