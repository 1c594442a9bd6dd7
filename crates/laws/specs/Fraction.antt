-- Fractions of whole numbers with a denominator above 0, compared by cross-multiplication.
use Rattle.std.specs.Prelude.{ℕ, ◌*◌, ◌^◌, ◌≤◌, ◌<◌}
use Rattle.std.proofs.Common.{mul-pos, zero-lt-suc}
use Rattle.std.proofs.Math.Nat.{one-le-pow}

pub record Fraction : Type 0 where
  pub num : ℕ
  pub den : ℕ
  pub pos : 0 < den

-- n / d
abbrev pub over : (n d : ℕ) → 0 < d → Fraction
over n d h = record { num = n; den = d; pos = h }

-- the whole number n
abbrev pub whole : ℕ → Fraction
whole n = over n 1 (zero-lt-suc 0)

-- at most, and less: records, so that both sides are found from the fact
infix 50 ◌≼◌ ◌≺◌
pub record ◌≼◌ (p q : Fraction) : Type 0 where
  pub cross : p.num * q.den ≤ q.num * p.den

pub record ◌≺◌ (p q : Fraction) : Type 0 where
  pub cross : p.num * q.den < q.num * p.den

-- the product, and the nth power
infixl 66 ◌·◌
abbrev pub ◌·◌ : Fraction → Fraction → Fraction
p · q = over (p.num * q.num) (p.den * q.den) (mul-pos p.pos q.pos)

infixr 67 ◌↑◌
abbrev pub ◌↑◌ : Fraction → ℕ → Fraction
p ↑ n = over (p.num ^ n) (p.den ^ n) (one-le-pow n p.den p.pos)
