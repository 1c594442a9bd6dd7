-- Rounding to the nearest whole number, halves away from zero (BT.2100's Round; request 04), of a fraction with a sign.
use Rattle.std.specs.Prelude.{cond, ℕ, ◌+◌, ◌*◌, ◌-◌, ◌/◌, ◌<◌, leb}
use Rattle.std.proofs.Common.{mul-pos, zero-lt-suc}
use Rattle.laws.specs.Fraction.{Fraction, over, ◌·◌}

-- a fraction with a sign
pub data Signed : Type 0 where
  plus minus : Fraction → Signed

-- a decimal of four places: decimal 1 8814 is 1.8814
abbrev pub decimal : ℕ → ℕ → Fraction
decimal n rest = over (10000 * n + rest) 10000 (zero-lt-suc 9999)

-- p − q
infixl 65 ◌⊖◌
abbrev pub ◌⊖◌ : Fraction → Fraction → Signed
p ⊖ q =
    let a = p.num * q.den in
    let b = q.num * p.den in
    let d = mul-pos p.pos q.pos in
    cond (leb b a) (plus (over (a - b) (p.den * q.den) d)) (minus (over (b - a) (p.den * q.den) d))

-- x times a fraction, and over one that is above 0
infixl 66 ◌⊙◌
abbrev pub ◌⊙◌ : Signed → Fraction → Signed
plus p ⊙ q = plus (p · q)
minus p ⊙ q = minus (p · q)

abbrev pub divided : Signed → (q : Fraction) → 0 < q.num → Signed
divided x q above = x ⊙ over q.den q.num above

-- the nearest whole number to a fraction without a sign, halves up: the whole part of p + 1/2
abbrev pub nearest : Fraction → ℕ
nearest p = (2 * p.num + p.den) / (2 * p.den)

-- n + round(x), for an n that x does not take below 0
infixl 60 ◌+round◌
abbrev pub ◌+round◌ : ℕ → Signed → ℕ
n +round plus p = n + nearest p
n +round minus p = n - nearest p
