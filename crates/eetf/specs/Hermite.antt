-- The Hermite spline of the published tone mapping (document 002, A.3.1, in its own names) with both black levels zero, and the scope's
-- form of it. Over one denominator: X the PQ signal of a pixel's brightest light, J that of 1,000 cd/m2, H the peak's.
use Rattle.std.specs.Prelude.{◌≡◌, ℕ, ◌+◌, ◌-◌, ◌*◌, ◌≤◌, ◌<◌}

-- ---- fractions with a sign: (plus − minus) / den
pub record Signed : Type 0 where
  pub plus : ℕ
  pub minus : ℕ
  pub den : ℕ

infixl 65 ◌⊞◌ ◌⊟◌
infixl 70 ◌⊠◌ ◌⊘◌
infixl 75 ◌∕◌
infixl 80 ◌² ◌³
abbrev pub ◌∕◌ : ℕ → ℕ → Signed
n ∕ d = record { plus = n; minus = 0; den = d }

abbrev pub number : ℕ → Signed
number n = n ∕ 1

abbrev pub ◌⊞◌ : Signed → Signed → Signed
r ⊞ s = record { plus = r.plus * s.den + s.plus * r.den; minus = r.minus * s.den + s.minus * r.den; den = r.den * s.den }

abbrev pub ◌⊟◌ : Signed → Signed → Signed
r ⊟ s = record { plus = r.plus * s.den + s.minus * r.den; minus = r.minus * s.den + s.plus * r.den; den = r.den * s.den }

abbrev pub ◌⊠◌ : Signed → Signed → Signed
r ⊠ s = record { plus = r.plus * s.plus + r.minus * s.minus; minus = r.plus * s.minus + r.minus * s.plus; den = r.den * s.den }

-- by a divisor above 0; by another one the denominator is 0, and nothing compares with the result
abbrev pub ◌⊘◌ : Signed → Signed → Signed
r ⊘ s = record { plus = r.plus * s.den; minus = r.minus * s.den; den = r.den * (s.plus - s.minus) }

abbrev pub ◌² : Signed → Signed
r ² = r ⊠ r

abbrev pub ◌³ : Signed → Signed
r ³ = r ⊠ r ⊠ r

-- equal, at most, less: cross-multiplied, with each minus on the other side
infix 50 ◌≈◌ ◌≼◌ ◌≺◌
pub record ◌≈◌ (r s : Signed) : Type 0 where
  pub cross : r.plus * s.den + s.minus * r.den ≡ s.plus * r.den + r.minus * s.den
  pub low : 0 < r.den
  pub high : 0 < s.den

pub record ◌≼◌ (r s : Signed) : Type 0 where
  pub cross : r.plus * s.den + s.minus * r.den ≤ s.plus * r.den + r.minus * s.den
  pub low : 0 < r.den
  pub high : 0 < s.den

pub record ◌≺◌ (r s : Signed) : Type 0 where
  pub cross : r.plus * s.den + s.minus * r.den < s.plus * r.den + r.minus * s.den
  pub low : 0 < r.den
  pub high : 0 < s.den

-- s is the whole part of r
pub record IsFloor (r : Signed) (s : ℕ) : Type 0 where
  pub low : number s ≼ r
  pub high : r ≺ number (s + 1)

-- ---- document 002
-- the knee: KS = 1.5 maxLum − 0.5
unfoldable pub KS : Signed → Signed
KS max_lum = 3 ∕ 2 ⊠ max_lum ⊟ 1 ∕ 2

-- T = (E₁ − KS) / (1 − KS)
unfoldable pub T : Signed → Signed → Signed
T E₁ ks = (E₁ ⊟ ks) ⊘ (number 1 ⊟ ks)

-- P = (2T³ − 3T² + 1) KS + (T³ − 2T² + T)(1 − KS) + (−2T³ + 3T²) maxLum
unfoldable pub P : Signed → Signed → Signed → Signed
P τ ks max_lum =
    (number 2 ⊠ τ ³ ⊟ number 3 ⊠ τ ² ⊞ number 1) ⊠ ks
    ⊞ (τ ³ ⊟ number 2 ⊠ τ ² ⊞ τ) ⊠ (number 1 ⊟ ks)
    ⊞ (number 3 ⊠ τ ² ⊟ number 2 ⊠ τ ³) ⊠ max_lum

-- E₁ = X / H, maxLum = J / H, and back to a PQ signal, E₄ = P × H (b is 0, so E₃ is E₂)
unfoldable pub hermite : ℕ → ℕ → ℕ → Signed
hermite X J H =
    let E₁ = X ∕ H in
    let max_lum = J ∕ H in
    let ks = KS max_lum in
    P (T E₁ ks) ks max_lum ⊠ number H

-- ---- the scope: J − 4(H − X)³ / (27(H − J)²)
unfoldable pub short : ℕ → ℕ → ℕ → Signed
short X J H = number J ⊟ number 4 ⊠ (number H ⊟ number X) ³ ⊘ (number 27 ⊠ (number H ⊟ number J) ²)
