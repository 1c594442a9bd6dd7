-- Laws of fractions: order, powers and roots, first in cross-multiplied form and then of the record.
use mathlib.Core.Path.{◌≡◌, sym, ap, subst₂}
use mathlib.Core.Logic.{◌≢◌}
use Prim.Native.Nat.{ℕ, ◌*◌, ◌^◌, ◌≤◌, ◌<◌, zero-le}
use native.Mathlib.Nat.{le_refl, le_antisymm, mul-pos, mul-le-mul}
use native.Mathlib.Nat.{mul-le-mul_right, mul-lt-mul_of_pos_right, le_of_mul-le-mul_right, lt_of_mul-lt-mul_right, pow-le-pow_left}
use native.Mathlib.Omega.{arith}
use Rattle.laws.specs.Fraction.{Fraction, ◌≼◌, ◌≺◌, ◌·◌, ◌↑◌}
use Rattle.laws.proofs.PowerLaws.{of_product, base_lt, base_le}

-- a / b ≤ c / d ≤ e / f
pub cross_trans : (a b c d e f : ℕ) → 0 < d → a * d ≤ c * b → c * f ≤ e * d → a * f ≤ e * b
cross_trans a b c d e f h x y = le_of_mul-le-mul_right {k = d} (omega (arith, mul-le-mul_right f x, mul-le-mul_right b y)) h

-- a / b ≤ c / d < e / f
pub cross_le_lt : (a b c d e f : ℕ) → 0 < b → 0 < d → a * d ≤ c * b → c * f < e * d → a * f < e * b
cross_le_lt a b c d e f g h x y = lt_of_mul-lt-mul_right d (omega (arith, mul-le-mul_right f x, mul-lt-mul_of_pos_right y g))

-- powers of both sides, and back
pub cross_power : (n a b c d : ℕ) → a * d ≤ c * b → a ^ n * d ^ n ≤ c ^ n * b ^ n
cross_power n a b c d h = subst₂ ◌≤◌ (of_product a d n) (of_product c b n) (pow-le-pow_left h n)

pub cross_root : (n a b c d : ℕ) → n ≢ 0 → a ^ n * d ^ n ≤ c ^ n * b ^ n → a * d ≤ c * b
cross_root n a b c d ne h = base_le n ne (subst₂ ◌≤◌ (sym (of_product a d n)) (sym (of_product c b n)) h)

pub ≼_refl : (p : Fraction) → p ≼ p
≼_refl p = record { cross = le_refl (p.num * p.den) }

pub ≼_trans : {p q r : Fraction} → p ≼ q → q ≼ r → p ≼ r
≼_trans {p} {q} {r} h k = record { cross = cross_trans p.num p.den q.num q.den r.num r.den q.pos h.cross k.cross }

pub ≼-≺ : {p q r : Fraction} → p ≼ q → q ≺ r → p ≺ r
≼-≺ {p} {q} {r} h k = record { cross = cross_le_lt p.num p.den q.num q.den r.num r.den p.pos q.pos h.cross k.cross }

-- a / b < c / d ≤ e / f
pub cross_lt_le : (a b c d e f : ℕ) → 0 < f → a * d < c * b → c * f ≤ e * d → a * f < e * b
cross_lt_le a b c d e f h x y = lt_of_mul-lt-mul_right d (omega (arith, mul-lt-mul_of_pos_right x h, mul-le-mul_right b y))

pub cross_root_lt : (n a b c d : ℕ) → a ^ n * d ^ n < c ^ n * b ^ n → a * d < c * b
cross_root_lt n a b c d h = base_lt n (subst₂ ◌<◌ (sym (of_product a d n)) (sym (of_product c b n)) h)

-- ---- of the record: products, powers, roots, and a common factor
pub ≼-product : {p q r t : Fraction} → p ≼ q → r ≼ t → p · r ≼ q · t
≼-product h k = record { cross = omega (arith, mul-le-mul h.cross k.cross) }

pub ≼-power : {p q : Fraction} (n : ℕ) → p ≼ q → p ↑ n ≼ q ↑ n
≼-power {p} {q} n h = record { cross = cross_power n p.num p.den q.num q.den h.cross }

pub ≼-root : {p q : Fraction} (n : ℕ) → n ≢ 0 → p ↑ n ≼ q ↑ n → p ≼ q
≼-root {p} {q} n ne h = record { cross = cross_root n p.num p.den q.num q.den ne h.cross }

pub ≼_cancel : {p q : Fraction} (m : Fraction) → 0 < m.num → p · m ≼ q · m → p ≼ q
≼_cancel m h x = record { cross = le_of_mul-le-mul_right {k = m.num * m.den} (omega (arith, x.cross)) (mul-pos h m.pos) }

-- 0 is at most every fraction, and what is at most 0 is 0
pub zero-≼ : {p : Fraction} (q : Fraction) → p.num ≡ 0 → p ≼ q
zero-≼ q e = record { cross = omega (arith, ap (λ n. n * q.den) e) }

pub ≼-zero : {p q : Fraction} → p ≼ q → q.num ≡ 0 → p.num ≡ 0
≼-zero {p} {q} h e = le_antisymm (le_of_mul-le-mul_right {k = q.den} (omega (arith, h.cross, ap (λ n. n * p.den) e)) q.pos) zero-le
