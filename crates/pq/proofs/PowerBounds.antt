-- Powers bounded on either side by short numbers: m * 2 ^ e, m rounded to that side and to 64 bits after each product. One law serves both sides.
use mathlib.Core.Path.{◌≡◌, sym, ap, ◌∙◌, subst, subst₂}
use mathlib.Core.Bool.{Bool, true, false}
use mathlib.Core.List.{List, [], ◌∷◌}
use Prim.Native.Nat.{ℕ, suc, min, ◌+◌, ◌-◌, ◌*◌, ◌/◌, ◌^◌, ◌≤◌, ◌<◌}
use native.Mathlib.Nat.{mul_assoc, mul-one, mul-le-mul_right, mul-lt-mul_of_pos_right, pow-suc}
use native.Mathlib.Omega.{arith}
use lib.Pow.{pow_pos, pow-add}
use lib.Dec.{T, leb, ltb, leb→le, ltb→lt}
use Rattle.laws.specs.Side.{Side, At}
use Rattle.laws.proofs.PowerLaws.{first, of_product, of_power}
use Rattle.laws.proofs.SideLaws.{at_refl, at_trans, at_mul, at_power, rounded, at_rounded}

-- the number whose binary digits are those of n, then those of the list
abbrev pub digits : List Bool → ℕ → ℕ
digits [] n = n
digits (false ∷ bs) n = digits bs (n + n)
digits (true ∷ bs) n = digits bs (suc (n + n))

-- m * 2 ^ e
abbrev pub size : ℕ × ℕ → ℕ
size u = u.0 * 2 ^ u.1

-- how many digits a product of two, or of three, numbers of 64 bits has above 64; any other number would be as right, only less short
abbrev surplus_of_two : ℕ → ℕ
surplus_of_two q = 63 + q / 2 ^ 127

abbrev surplus_of_three : ℕ → ℕ
surplus_of_three q = 126 + min (q / 2 ^ 190) 2

-- x ^ digits bs n from one side, where m * 2 ^ e is x ^ n from that side
abbrev pub power : Side → List Bool → ℕ → ℕ → ℕ → ℕ × ℕ
power s [] x m e = (m, e)
power s (false ∷ bs) x m e = let q = m * m in let k = surplus_of_two q in power s bs x (rounded s q (2 ^ k)) (e + e + k)
power s (true ∷ bs) x m e = let q = m * m * x in let k = surplus_of_three q in power s bs x (rounded s q (2 ^ k)) (e + e + k)

-- k digits rounded off
shorter : (s : Side) (q e k y : ℕ) → At s (q * 2 ^ e) y → At s (rounded s q (2 ^ k) * 2 ^ (e + k)) y
shorter s q e k y h =
    let c = rounded s q (2 ^ k) in
    let same : c * 2 ^ k * 2 ^ e ≡ c * 2 ^ (e + k) = rw (pow-add 2 e k) (omega arith) in
    at_trans s (c * 2 ^ (e + k)) (q * 2 ^ e) y
    (subst (λ z. At s z (q * 2 ^ e)) same (at_mul s (c * 2 ^ k) q (2 ^ e) (2 ^ e) (at_rounded s q (2 ^ k) (pow_pos k)) (at_refl s (2 ^ e)))) h

squared : (s : Side) (x m e n : ℕ) → At s (m * 2 ^ e) (x ^ n) → At s (m * m * 2 ^ (e + e)) (x ^ (n + n))
squared s x m e n h =
    let same : m * 2 ^ e * (m * 2 ^ e) ≡ m * m * 2 ^ (e + e) = rw (pow-add 2 e e) (omega arith) in
    subst₂ (At s) same (sym (pow-add x n n)) (at_mul s (m * 2 ^ e) (x ^ n) (m * 2 ^ e) (x ^ n) h h)

squared_times : (s : Side) (x m e n : ℕ) → At s (m * 2 ^ e) (x ^ n) → At s (m * m * x * 2 ^ (e + e)) (x ^ suc (n + n))
squared_times s x m e n h =
    let same : m * m * 2 ^ (e + e) * x ≡ m * m * x * 2 ^ (e + e) = omega arith in
    subst₂ (At s) same (sym (pow-suc x (n + n))) (at_mul s (m * m * 2 ^ (e + e)) (x ^ (n + n)) x x (squared s x m e n h) (at_refl s x))

power_from : (s : Side) (bs : List Bool) (x m e n : ℕ) → At s (m * 2 ^ e) (x ^ n) → At s (size (power s bs x m e)) (x ^ digits bs n)
power_from s [] x m e n h = h
power_from s (false ∷ bs) x m e n h =
    let q = m * m in
    let k = surplus_of_two q in
    power_from s bs x (rounded s q (2 ^ k)) (e + e + k) (n + n) (shorter s q (e + e) k (x ^ (n + n)) (squared s x m e n h))
power_from s (true ∷ bs) x m e n h =
    let q = m * m * x in
    let k = surplus_of_three q in
    power_from s bs x (rounded s q (2 ^ k)) (e + e + k) (suc (n + n)) (shorter s q (e + e) k (x ^ suc (n + n)) (squared_times s x m e n h))

-- the power of x by the number whose first digit is 1 and whose others are listed
abbrev pub power_of : Side → List Bool → ℕ → ℕ × ℕ
power_of s bs x = power s bs x x 0

pub power_bounds : (s : Side) (bs : List Bool) (x : ℕ) → At s (size (power_of s bs x)) (x ^ digits bs 1)
power_bounds s bs x = power_from s bs x x 0 1 (subst₂ (At s) (sym (mul-one x)) (sym (first x)) (at_refl s x))

-- the same power of a fraction x / y, in 1 / 2 ^ (j * exponent)
abbrev pub power_of_quotient : Side → List Bool → ℕ → ℕ → ℕ → ℕ × ℕ
power_of_quotient s bs x y j = power_of s bs (rounded s (x * 2 ^ j) y)

pub quotient_bounds : (s : Side) (bs : List Bool) (x y j : ℕ) → 0 < y
    → At s (size (power_of_quotient s bs x y j) * y ^ digits bs 1) (x ^ digits bs 1 * 2 ^ (j * digits bs 1))
quotient_bounds s bs x y j h =
    let n = digits bs 1 in
    let r = rounded s (x * 2 ^ j) y in
    at_trans s (size (power_of s bs r) * y ^ n) (r ^ n * y ^ n) (x ^ n * 2 ^ (j * n))
    (at_mul s (size (power_of s bs r)) (r ^ n) (y ^ n) (y ^ n) (power_bounds s bs r) (at_refl s (y ^ n)))
    (subst₂ (At s) (of_product r y n) (of_product x (2 ^ j) n ∙ ap (λ z. x ^ n * z) (of_power 2 j n))
    (at_power s (r * y) (x * 2 ^ j) n (at_rounded s (x * 2 ^ j) y h)))

-- x * 2 ^ p against y * 2 ^ q, tested without the twos that both have
abbrev pub le_scaled : ℕ → ℕ → ℕ → ℕ → Bool
le_scaled x p y q = leb (x * 2 ^ (p - q)) (y * 2 ^ (q - p))

abbrev pub lt_scaled : ℕ → ℕ → ℕ → ℕ → Bool
lt_scaled x p y q = ltb (x * 2 ^ (p - q)) (y * 2 ^ (q - p))

rejoined : (x r m p : ℕ) → r + m ≡ p → x * 2 ^ r * 2 ^ m ≡ x * 2 ^ p
rejoined x r m p e = mul_assoc x (2 ^ r) (2 ^ m) ∙ ap (λ z. x * z) (sym (pow-add 2 r m) ∙ ap (λ z. 2 ^ z) e)

pub le_scaled→ : (x p y q : ℕ) → T (le_scaled x p y q) → x * 2 ^ p ≤ y * 2 ^ q
le_scaled→ x p y q t =
    subst₂ ◌≤◌ (rejoined x (p - q) (min p q) p (omega arith)) (rejoined y (q - p) (min p q) q (omega arith))
    (mul-le-mul_right (2 ^ min p q) (leb→le (x * 2 ^ (p - q)) (y * 2 ^ (q - p)) t))

pub lt_scaled→ : (x p y q : ℕ) → T (lt_scaled x p y q) → x * 2 ^ p < y * 2 ^ q
lt_scaled→ x p y q t =
    subst₂ ◌<◌ (rejoined x (p - q) (min p q) p (omega arith)) (rejoined y (q - p) (min p q) q (omega arith))
    (mul-lt-mul_of_pos_right (ltb→lt (x * 2 ^ (p - q)) (y * 2 ^ (q - p)) t) (pow_pos (min p q)))
