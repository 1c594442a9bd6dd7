-- Tests of the PQ relation by short bounds of its powers, and that a passed test is the relation. A test is given a fraction a / 2 ^ b for w.
use mathlib.Core.Path.{◌≡◌, sym, subst}
use mathlib.Core.Bool.{Bool, true, false, ◌&&◌}
use mathlib.Core.List.{List, [], ◌∷◌}
use Prim.Native.Nat.{ℕ, ◌+◌, ◌*◌, ◌^◌, ◌≤◌, ◌<◌}
use native.Mathlib.Nat.{mul-pos, mul_assoc, mul_right_comm, one-le-pow}
use native.Mathlib.Omega.{arith}
use lib.Pow.{pow_pos, pow-add}
use lib.Dec.{T}
use lib.Ieee.Fits.{and_l, and_r}
use Rattle.laws.specs.Fraction.{Fraction, over}
use Rattle.laws.specs.Side.{Side, low, high, other, At}
use Rattle.laws.proofs.PowerLaws.{of_power}
use Rattle.laws.proofs.FractionLaws.{cross_trans, cross_lt_le}
use Rattle.laws.proofs.SideLaws.{at_refl, at_trans, at_mul, at_other, at_cross_trans}
use Rattle.quantity.specs.Units.{units, ten_thousand}
use Rattle.pq.specs.Pq.{ratio_num, ratio_den, ValueAtMost, ValueAbove, index_signal, lower_end, upper_end}
use Rattle.pq.proofs.PowerBounds.{size, power_of, power_bounds, power_of_quotient, quotient_bounds, le_scaled, le_scaled→, lt_scaled, lt_scaled→}

-- the binary digits, after the first, of the exponents 1305, 8192 and 2523
abbrev light_digits : List Bool
light_digits = false ∷ true ∷ false ∷ false ∷ false ∷ true ∷ true ∷ false ∷ false ∷ true ∷ []

abbrev w_digits : List Bool
w_digits = false ∷ false ∷ false ∷ false ∷ false ∷ false ∷ false ∷ false ∷ false ∷ false ∷ false ∷ false ∷ false ∷ []

abbrev ratio_digits : List Bool
ratio_digits = false ∷ false ∷ true ∷ true ∷ true ∷ false ∷ true ∷ true ∷ false ∷ true ∷ true ∷ []

-- ---- the light: a / 2 ^ b is on side s of the w of l / t; j brings l / t to 64 bits
abbrev compared : Side → ℕ × ℕ → ℕ → ℕ × ℕ → ℕ → Bool
compared low u p v q = le_scaled u.0 (u.1 + p) v.0 (v.1 + q)
compared high u p v q = le_scaled v.0 (v.1 + q) u.0 (u.1 + p)

size_add : (u : ℕ × ℕ) (p : ℕ) → u.0 * 2 ^ (u.1 + p) ≡ size u * 2 ^ p
size_add u p = rw (pow-add 2 u.1 p) (sym (mul_assoc u.0 (2 ^ u.1) (2 ^ p)))

compared→ : (s : Side) (u : ℕ × ℕ) (p : ℕ) (v : ℕ × ℕ) (q : ℕ) → T (compared s u p v q) → At s (size u * 2 ^ p) (size v * 2 ^ q)
compared→ low u p v q t = rw (← size_add u p, ← size_add v q) (le_scaled→ u.0 (u.1 + p) v.0 (v.1 + q) t)
compared→ high u p v q t = rw (← size_add u p, ← size_add v q) (le_scaled→ v.0 (v.1 + q) u.0 (u.1 + p) t)

abbrev light_test : Side → ℕ → ℕ → ℕ → ℕ → ℕ → Bool
light_test s l t a b j = compared s (power_of (other s) w_digits a) (j * 1305) (power_of_quotient s light_digits l t j) (b * 8192)

light_test→ : (s : Side) (l t a b j : ℕ) → 0 < t → T (light_test s l t a b j) → At s (a ^ 8192 * t ^ 1305) (l ^ 1305 * (2 ^ b) ^ 8192)
light_test→ s l t a b j h k =
    let v = power_of (other s) w_digits a in
    let u = power_of_quotient s light_digits l t j in
    let J = 2 ^ (j * 1305) in
    at_cross_trans s (a ^ 8192) ((2 ^ b) ^ 8192) (size u) J (l ^ 1305) (t ^ 1305) (pow_pos (j * 1305))
    (at_trans s (a ^ 8192 * J) (size v * J) (size u * (2 ^ b) ^ 8192)
    (at_mul s (a ^ 8192) (size v) J J (at_other s (size v) (a ^ 8192) (power_bounds (other s) w_digits a)) (at_refl s J))
    (subst (λ z. At s (size v * J) (size u * z)) (sym (of_power 2 b 8192)) (compared→ s v (j * 1305) u (b * 8192) k)))
    (quotient_bounds s light_digits l t j h)

-- ---- the signal: the V of r = n / d is at most x / y, and above it
abbrev at_most_signal : ℕ → ℕ → ℕ → ℕ → Bool
at_most_signal n d x y = let u = power_of_quotient high ratio_digits n d 64 in le_scaled (u.0 * y ^ 32) u.1 (x ^ 32) (64 * 2523)

at_most_signal→ : (n d x y : ℕ) → 0 < d → T (at_most_signal n d x y) → n ^ 2523 * y ^ 32 ≤ x ^ 32 * d ^ 2523
at_most_signal→ n d x y h t =
    let u = power_of_quotient high ratio_digits n d 64 in
    cross_trans (n ^ 2523) (d ^ 2523) (size u) (2 ^ (64 * 2523)) (x ^ 32) (y ^ 32) (pow_pos (64 * 2523))
    (quotient_bounds high ratio_digits n d 64 h)
    (subst (λ z. z ≤ x ^ 32 * 2 ^ (64 * 2523)) (mul_right_comm u.0 (y ^ 32) (2 ^ u.1)) (le_scaled→ (u.0 * y ^ 32) u.1 (x ^ 32) (64 * 2523) t))

abbrev above_signal : ℕ → ℕ → ℕ → ℕ → Bool
above_signal n d x y = let u = power_of_quotient low ratio_digits n d 64 in lt_scaled (x ^ 32) (64 * 2523) (u.0 * y ^ 32) u.1

above_signal→ : (n d x y : ℕ) → 0 < d → T (above_signal n d x y) → x ^ 32 * d ^ 2523 < n ^ 2523 * y ^ 32
above_signal→ n d x y h t =
    let u = power_of_quotient low ratio_digits n d 64 in
    cross_lt_le (x ^ 32) (y ^ 32) (size u) (2 ^ (64 * 2523)) (n ^ 2523) (d ^ 2523) (one-le-pow 2523 d h)
    (subst (λ z. x ^ 32 * 2 ^ (64 * 2523) < z) (mul_right_comm u.0 (y ^ 32) (2 ^ u.1)) (lt_scaled→ (x ^ 32) (64 * 2523) (u.0 * y ^ 32) u.1 t))
    (quotient_bounds low ratio_digits n d 64 h)

-- ---- the relation
pub ten_thousand_pos : 0 < ten_thousand
unfolding ten_thousand units
ten_thousand_pos = omega arith

pub ratio_den_pos : (a b : ℕ) → 0 < b → 0 < ratio_den a b
unfolding ratio_den
ratio_den_pos a b h = omega arith

-- V (ln / ld) ≤ xn / xd
abbrev pub at_most_test : ℕ → ℕ → ℕ → ℕ → ℕ → ℕ → ℕ → Bool
at_most_test ln ld xn xd a b j = light_test high ln (ten_thousand * ld) a b j && at_most_signal (ratio_num a (2 ^ b)) (ratio_den a (2 ^ b)) xn xd

pub at_most_test→ : (l x : Fraction) (a b j : ℕ) → T (at_most_test l.num l.den x.num x.den a b j) → ValueAtMost l x
at_most_test→ l x a b j t =
    let c = light_test high l.num (ten_thousand * l.den) a b j in
    let d = at_most_signal (ratio_num a (2 ^ b)) (ratio_den a (2 ^ b)) x.num x.den in
    record {
      w = over a (2 ^ b) (pow_pos b);
      of_light = light_test→ high l.num (ten_thousand * l.den) a b j (mul-pos ten_thousand_pos l.pos) (and_l c d t);
      of_signal = at_most_signal→ (ratio_num a (2 ^ b)) (ratio_den a (2 ^ b)) x.num x.den (ratio_den_pos a (2 ^ b) (pow_pos b)) (and_r c d t);
    }

-- xn / xd < V (ln / ld)
abbrev pub above_test : ℕ → ℕ → ℕ → ℕ → ℕ → ℕ → ℕ → Bool
above_test ln ld xn xd a b j = light_test low ln (ten_thousand * ld) a b j && above_signal (ratio_num a (2 ^ b)) (ratio_den a (2 ^ b)) xn xd

pub above_test→ : (l x : Fraction) (a b j : ℕ) → T (above_test l.num l.den x.num x.den a b j) → ValueAbove l x
above_test→ l x a b j t =
    let c = light_test low l.num (ten_thousand * l.den) a b j in
    let d = above_signal (ratio_num a (2 ^ b)) (ratio_den a (2 ^ b)) x.num x.den in
    record {
      w = over a (2 ^ b) (pow_pos b);
      of_light = light_test→ low l.num (ten_thousand * l.den) a b j (mul-pos ten_thousand_pos l.pos) (and_l c d t);
      of_signal = above_signal→ (ratio_num a (2 ^ b)) (ratio_den a (2 ^ b)) x.num x.den (ratio_den_pos a (2 ^ b) (pow_pos b)) (and_r c d t);
    }

-- ---- an entry p of the table at k: a / 2 ^ b is at most the w of the signal, (a + 1024) / 2 ^ b is above it, and j brings the light to 64 bits
pub data Hint : Type 0 where
  hint : ℕ → ℕ → ℕ → Hint

abbrev pub entry_test : ℕ → ℕ → Hint → Bool
entry_test k p (hint a b j) =
    at_most_test (lower_end p).num (lower_end p).den k 3504 a b j && above_test (upper_end p).num (upper_end p).den k 3504 (a + 1024) b j

pub entry_test→ : (k p : ℕ) (h : Hint) → T (entry_test k p h) → ValueAtMost (lower_end p) (index_signal k) × ValueAbove (upper_end p) (index_signal k)
entry_test→ k p (hint a b j) t =
    let c = at_most_test (lower_end p).num (lower_end p).den k 3504 a b j in
    let d = above_test (upper_end p).num (upper_end p).den k 3504 (a + 1024) b j in
    (at_most_test→ (lower_end p) (index_signal k) a b j (and_l c d t), above_test→ (upper_end p) (index_signal k) (a + 1024) b j (and_r c d t))
