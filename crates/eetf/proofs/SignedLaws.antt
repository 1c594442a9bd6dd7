-- Equality of signed fractions is an equivalence that sums, products and quotients respect, and so do the orders.
use mathlib.Core.Path.{◌≡◌, refl, ap, ◌∙◌}
use Prim.Native.Nat.{ℕ, ◌-◌, ◌*◌, ◌<◌}
use native.Mathlib.Nat.{eq_of_mul-eq-mul_left, mul-pos}
use native.Mathlib.Nat.{mul-le-mul_left, mul-lt-mul_of_pos_left, le_of_mul-le-mul_left, lt_of_mul-lt-mul_left, lt_of_mul-lt-mul_right}
use native.Mathlib.Omega.{arith}
use Rattle.laws.proofs.DivisionLaws.{sub_mul}
use Rattle.eetf.specs.Hermite.{Signed, ◌∕◌, ◌⊞◌, ◌⊟◌, ◌⊠◌, ◌⊘◌, ◌≈◌, ◌≼◌, ◌≺◌}

pub ≈_refl : (r : Signed) → 0 < r.den → r ≈ r
≈_refl r p = record { cross = refl; low = p; high = p }

pub ≈_sym : {r s : Signed} → r ≈ s → s ≈ r
≈_sym h = omega arith

pub ≈_trans : {r s t : Signed} → r ≈ s → s ≈ t → r ≈ t
≈_trans {r} {s} {t} h k =
    record {
      cross = eq_of_mul-eq-mul_left s.den k.low _ _ (omega (arith, ap (λ u. u * t.den) h.cross, ap (λ u. u * r.den) k.cross));
      low = h.low;
      high = k.high;
    }

-- ---- products
⊠_left : {r s : Signed} (t : Signed) → 0 < t.den → r ≈ s → r ⊠ t ≈ s ⊠ t
⊠_left {r} {s} t p h =
    record {
      cross = omega (arith, ap (λ u. u * (t.plus * t.den)) h.cross, ap (λ u. u * (t.minus * t.den)) h.cross);
      low = mul-pos h.low p;
      high = mul-pos h.high p;
    }

⊠_comm : (r t : Signed) → 0 < r.den → 0 < t.den → r ⊠ t ≈ t ⊠ r
⊠_comm r t p q = record { cross = omega arith; low = mul-pos p q; high = mul-pos q p }

pub ⊠_cong : {r s t u : Signed} → r ≈ s → t ≈ u → r ⊠ t ≈ s ⊠ u
⊠_cong {r} {s} {t} {u} h k =
    ≈_trans (⊠_left t k.low h)
    (≈_trans (⊠_comm s t h.high k.low) (≈_trans (⊠_left s h.high k) (⊠_comm u s k.high h.high)))

-- ---- sums and differences
⊞_left : {r s : Signed} (t : Signed) → 0 < t.den → r ≈ s → r ⊞ t ≈ s ⊞ t
⊞_left {r} {s} t p h =
    record { cross = omega (arith, ap (λ u. u * (t.den * t.den)) h.cross); low = mul-pos h.low p; high = mul-pos h.high p }

⊞_comm : (r t : Signed) → 0 < r.den → 0 < t.den → r ⊞ t ≈ t ⊞ r
⊞_comm r t p q = record { cross = omega arith; low = mul-pos p q; high = mul-pos q p }

pub ⊞_cong : {r s t u : Signed} → r ≈ s → t ≈ u → r ⊞ t ≈ s ⊞ u
⊞_cong {r} {s} {t} {u} h k =
    ≈_trans (⊞_left t k.low h)
    (≈_trans (⊞_comm s t h.high k.low) (≈_trans (⊞_left s h.high k) (⊞_comm u s k.high h.high)))

abbrev minus_of : Signed → Signed
minus_of t = record { plus = t.minus; minus = t.plus; den = t.den }

pub ⊟_cong : {r s t u : Signed} → r ≈ s → t ≈ u → r ⊟ t ≈ s ⊟ u
⊟_cong {r} {s} {t} {u} h k =
    ⊞_cong {t = minus_of t} {u = minus_of u} h (record { cross = omega (arith, k.cross); low = k.low; high = k.high })

-- ---- dividing by k / e is multiplying by e / k
positive_part : (t : Signed) (k e : ℕ) → t ≈ k ∕ e → (t.plus - t.minus) * e ≡ k * t.den
positive_part t k e g = sub_mul t.plus t.minus e ∙ omega (arith, g.cross)

pub ⊘_cong : {r s t : Signed} (k e : ℕ) → 0 < k → r ≈ s → t ≈ k ∕ e → r ⊘ t ≈ s ⊠ e ∕ k
⊘_cong {r} {s} {t} k e p h g = ≈_trans inside (⊠_left (e ∕ k) p h)
  where
    D : ℕ
    D = t.plus - t.minus

    part : D * e ≡ k * t.den
    part = positive_part t k e g

    pos : 0 < D
    pos = lt_of_mul-lt-mul_right e {m = 0} {n = D} (omega (arith, part, mul-pos p g.low))

    inside : r ⊘ t ≈ r ⊠ e ∕ k
    inside =
        record {
          cross = omega (arith, ap (λ u. u * (r.den * r.plus)) part, ap (λ u. u * (r.den * r.minus)) part);
          low = mul-pos h.low pos;
          high = mul-pos h.low p;
        }

-- ---- orders
pub ≼-≈ : {r s t : Signed} → r ≼ s → s ≈ t → r ≼ t
≼-≈ {r} {s} {t} h k =
    record {
      cross = le_of_mul-le-mul_left {k = s.den} (omega (arith, mul-le-mul_left t.den h.cross, ap (λ u. u * r.den) k.cross)) k.low;
      low = h.low;
      high = k.high;
    }

pub ≈-≺ : {r s t : Signed} → r ≈ s → s ≺ t → r ≺ t
≈-≺ {r} {s} {t} h k =
    record {
      cross = lt_of_mul-lt-mul_left s.den (omega (arith, ap (λ u. u * t.den) h.cross, mul-lt-mul_of_pos_left k.cross h.low));
      low = h.low;
      high = k.high;
    }
