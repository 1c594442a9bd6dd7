-- The product of a 32-bit float with 2^24 is a 64-bit float, unrounded, so that its whole part is that of the exact product.
use Rattle.std.proofs.Common.{◌≡◌, ℕ, suc, ◌+◌, ◌-◌, ◌*◌, ◌/◌, ◌^◌, ◌<◌, ◌≤◌, true, false, not, T, ℤ, pos, negsuc, sym, ap, ◌∙◌, subst, true≢false}
use Rattle.std.proofs.Common.{lt_of_lt_of_le, lt_of_le_of_lt, le_of_lt, mul_assoc, div-lt_iff_lt-mul, mul-le-mul, lt_of_mul-lt-mul_right}
use Rattle.std.proofs.Common.{mul-lt-mul_of_pos_right, mul-pos, mul-one, mul_right_comm, arith, lit<, lit≤, lt→ltb, pow_pos, pow_mono, pow-add, ltb-false}
use lib.Ieee.{Float, nan, inf, fin, up, down, fits, mul, round, binary32, binary64, lt, to_unsigned, is_nan}
use lib.Ieee.Exact.{HasValue, round_exact}
use lib.Ieee.Fits.{down_pos}
use lib.Ieee.Nearest.{div_same}
use Rattle.quantity.specs.Units.{units}
use Rattle.linear_light.specs.LinearLight.{no_light, most_light, magnitude}
use Rattle.linear_light.proofs.ValueLaws.{within, held, magnitude_exact}

abbrev scale : Float
scale = fin false 1 (pos 24)

-- ---- the product is not rounded: 24 digits are few enough, 2^-125 and 2^152 lie in range
power : (m a b : ℕ) → m * 2 ^ a * 2 ^ b ≡ m * 2 ^ (a + b)
power m a b = mul_assoc m (2 ^ a) (2 ^ b) ∙ ap (λ (x : ℕ). m * x) (sym (pow-add 2 a b))

unrounded : (m : ℕ) (e : ℤ) → m < 2 ^ 24 → down e ≤ 2 ^ 149 → m * up e < 2 ^ 128 * down e
    → HasValue (round binary64 false (m * up e * (1 * 2 ^ 24)) (down e * 1)) false (m * up e * (1 * 2 ^ 24)) (down e * 1)
unrounded m (pos k) h d t =
    round_exact binary64 false (m * 2 ^ k * (1 * 2 ^ 24)) (1 * 1) m (k + 1098) (lit< tt) (lt_of_lt_of_le h (lit≤ tt))
    (subst (λ (x : ℕ). x < 2 ^ 2098) (power m k 1098)
    (lt_of_lt_of_le (mul-lt-mul_of_pos_right {m = m * 2 ^ k} {n = 2 ^ 128} {k = 2 ^ 1098} t (pow_pos 1098)) (lit≤ tt)))
    (mul_assoc (m * 2 ^ k) (2 ^ 24) (2 ^ 1074) ∙ power m k 1098 ∙ sym (mul-one (m * 2 ^ (k + 1098))))
unrounded m (negsuc k) h d t =
    let l : suc k ≤ 149 = within (suc k) 149 d in
    let j : 1098 - suc k + suc k ≡ 1098 = omega arith in
    round_exact binary64 false (m * 1 * (1 * 2 ^ 24)) (2 ^ suc k * 1) m (1098 - suc k) (mul-pos (pow_pos (suc k)) (lit< tt)) (lt_of_lt_of_le h (lit≤ tt))
    (lt_of_le_of_lt (mul-le-mul (le_of_lt h) (pow_mono {i = 1098 - suc k} {j = 1098} (omega arith))) (lit< tt))
    (ap (λ (x : ℕ). x * 2 ^ 24 * 2 ^ 1074) (mul-one m) ∙ mul_assoc m (2 ^ 24) (2 ^ 1074)
    ∙ sym (ap (λ (x : ℕ). m * 2 ^ (1098 - suc k) * x) (mul-one (2 ^ suc k)) ∙ power m (1098 - suc k) (suc k) ∙ ap (λ (x : ℕ). m * 2 ^ x) j))

-- ---- a value y that is a / c, below 2^64: its whole part may be asked for, and is that of the fraction
abbrev Truncated : Float → ℕ → Type 0
Truncated y n = (T (lt (fin true 1 (pos 0)) y)) × (T (lt y (fin false 1 (pos 64)))) × (to_unsigned 64 y ≡ n)

truncated : (y : Float) (a c : ℕ) → HasValue y false a c → 0 < c → a < 2 ^ 64 * c → Truncated y (a / c)
unfolding lt to_unsigned
truncated nan a c v p small = absurd v
truncated (inf t) a c v p small = absurd v
truncated (fin true n d) a c v p small = absurd (true≢false v.0)
truncated (fin false n d) a c v p small =
    let dp : 0 < down d = down_pos d in
    let scaled : a * down d < 2 ^ 64 * down d * c =
    subst (λ (x : ℕ). a * down d < x) (mul_right_comm (2 ^ 64) c (down d)) (mul-lt-mul_of_pos_right small dp) in
    let below : n * up d < 2 ^ 64 * down d = lt_of_mul-lt-mul_right c (subst (λ (x : ℕ). x < 2 ^ 64 * down d * c) (sym v.1) scaled) in
    let q : n * up d / down d ≡ a / c = div_same (n * up d) (down d) a c dp p v.1 in
    let top : a / c < 2 ^ 64 = (div-lt_iff_lt-mul p).1 small in
    (lt→ltb 0 (1 * 1 * down d + n * up d * 1) (omega arith), lt→ltb (n * up d * 1) (1 * 2 ^ 64 * down d) (omega arith), omega arith)

-- the fraction's whole part by the size of the value
whole_part : (a d n z : ℕ) → 0 < d → 0 < z → n * d ≡ a * z → n * units / z ≡ a * (1 * 2 ^ 24) / (d * 1)
unfolding units
whole_part a d n z p q e =
    div_same (n * 16777216) z (a * (1 * 2 ^ 24)) (d * 1) q (omega arith) (omega (arith, ap (λ (x : ℕ). 16777216 * x) e))

-- ---- values above 0 and not above 10,000
pub above_none : (x : Float) → lt no_light x ≡ true → T (not (is_nan x))
unfolding lt is_nan
above_none nan a = absurd (true≢false (sym a))
above_none (inf s) a = tt
above_none (fin s m e) a = tt

pub exactly : (x : Float) → T (fits binary32 x) → lt no_light x ≡ true → lt most_light x ≡ false
    → Truncated (mul binary64 x scale) (magnitude x * units / 2 ^ 149)
unfolding mul lt
exactly nan f a b = absurd (true≢false (sym a))
exactly (inf true) f a b = absurd (true≢false (sym a))
exactly (inf false) f a b = absurd (true≢false b)
exactly (fin true m e) f a b = absurd (true≢false (sym a))
exactly (fin false m e) f a b =
    let k = held false m e f in
    let dp : 0 < down e = down_pos e in
    let most = ltb-false (625 * 2 ^ 4 * down e) (m * up e * 1) b in
    let a = m * up e * (1 * 2 ^ 24) in
    let c = down e * 1 in
    let r = truncated (round binary64 false a c) a c (unrounded m e k.0 k.1 k.2) (omega arith) (omega arith) in
    (r.0, r.1, r.2 ∙ sym (whole_part (m * up e) (down e) (magnitude (fin false m e)) (2 ^ 149) dp (pow_pos 149) (magnitude_exact false m e f)))
