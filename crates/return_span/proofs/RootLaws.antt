-- A guess whose fifth power, in three products rounded down, comes near the power that the root of a luminance has, encloses that root within a part of
-- itself: by polynomials, with nothing about words.
use Rattle.std.proofs.Common.{◌≡◌, ℕ, ◌+◌, ◌-◌, ◌*◌, ◌/◌, ◌^◌, ◌<◌, ◌≤◌, [], ◌∷◌, subst, le_trans, mul-le-mul_left, mul-pos, not-le_of_lt}
use Rattle.std.proofs.Common.{le_of_mul-le-mul_right, arith, lit<}
use native.Mathlib.Nat.{le_of_mul-le-mul_left, pow-le-pow_left, one-le-pow}
use native.Mathlib.Decide.{dec_le}
use Rattle.laws.proofs.DivisionLaws.{floor_le, lt_floor}
use Rattle.laws.proofs.Polynomial.{#◌, ◌⊕◌, ◌⊗◌, ◌↑◌, ◌≐◌, ring}
use Rattle.laws.proofs.Certificate.{◌⊑◌by◌, ◌⊢◌≼◌, cert}
use Rattle.ootf.specs.Root.{fives, LowRoot, HighRoot}
use Rattle.return_span.specs.Settled.{Enclosed}

-- ---- the fifth power of a number w by its square, its fourth power and itself, each in units of 2^64 and rounded down
pub record Fifth (w s f p : ℕ) : Type 0 where
  pub square : s ≡ w * w / 2 ^ 64
  pub fourth : f ≡ s * s / 2 ^ 64
  pub fifth : p ≡ f * w / 2 ^ 64

power_under : (w s f p : ℕ) → 2 ^ 64 * s ≤ w * w → 2 ^ 64 * f ≤ s * s → 2 ^ 64 * p ≤ f * w → 2 ^ 256 * p ≤ w ^ 5
power_under w s f p a b c =
    cert 4
    (λ w s f p.
    ((# (2 ^ 64) ⊗ s) ↑ 2 ⊑ (w ⊗ w) ↑ 2 by w)
    ∷ (# (2 ^ 64) ⊗ f ⊑ s ⊗ s by # (2 ^ 128) ⊗ w)
    ∷ (# (2 ^ 64) ⊗ p ⊑ f ⊗ w by # (2 ^ 192))
    ∷ [] ⊢ # (2 ^ 256) ⊗ p ≼ w ↑ 5)
    tt w s f p (pow-le-pow_left a 2) b c

power_over : (w s f p : ℕ) → w * w ≤ 2 ^ 64 * s → s * s ≤ 2 ^ 64 * f → f * w ≤ 2 ^ 64 * p → w ^ 5 ≤ 2 ^ 256 * p
power_over w s f p a b c =
    cert 4
    (λ w s f p.
    ((w ⊗ w) ↑ 2 ⊑ (# (2 ^ 64) ⊗ s) ↑ 2 by w)
    ∷ (s ⊗ s ⊑ # (2 ^ 64) ⊗ f by # (2 ^ 128) ⊗ w)
    ∷ (f ⊗ w ⊑ # (2 ^ 64) ⊗ p by # (2 ^ 192))
    ∷ [] ⊢ w ↑ 5 ≼ # (2 ^ 256) ⊗ p)
    tt w s f p (pow-le-pow_left a 2) b c

pub fifth_under : (w s f p : ℕ) → Fifth w s f p → 2 ^ 256 * p ≤ w ^ 5
fifth_under w s f p h =
    power_under w s f p (omega (arith, h.square, floor_le (w * w) (2 ^ 64))) (omega (arith, h.fourth, floor_le (s * s) (2 ^ 64)))
    (omega (arith, h.fifth, floor_le (f * w) (2 ^ 64)))

-- what is missed of a square of a number below a unit m, and of its product with another such
next_square : (s f m : ℕ) → s < m → s * s < (f + 1) * m → (s + 1) * (s + 1) ≤ m * (f + 3)
next_square s f m h k = omega arith

next_product : (w f p m : ℕ) → w < m → f * w < (p + 1) * m → (f + 3) * w ≤ m * (p + 4)
next_product w f p m h k = omega arith

pub fifth_over : (w s f p : ℕ) → w < 2 ^ 64 → s < 2 ^ 64 → Fifth w s f p → w ^ 5 ≤ 2 ^ 256 * (p + 4)
fifth_over w s f p hw hs h =
    power_over w (s + 1) (f + 3) (p + 4) (omega (arith, h.square, lt_floor (w * w) (2 ^ 64) (lit< tt)))
    (next_square s f (2 ^ 64) hs (rw h.fourth (lt_floor (s * s) (2 ^ 64) (lit< tt))))
    (next_product w f p (2 ^ 64) hw (rw h.fifth (lt_floor (f * w) (2 ^ 64) (lit< tt))))

-- ---- a guess w whose fifth power lies near a power q: its 2^20th part below it, and above it. Five parts of a power would do, four are asked
pub lowered : (w p q v : ℕ) → w ^ 5 ≤ 2 ^ 256 * (p + 4) → p - p / 2 ^ 18 + 4 ≤ q → v + (w / 2 ^ 20 + 1) ≤ w → v ^ 5 ≤ 2 ^ 256 * q
lowered w p q v power near part =
    le_of_mul-le-mul_left {k = 2 ^ 100}
    (cert 4 (λ w p q v.
    ((# (2 ^ 20) ⊗ v) ↑ 5 ⊑ (# (2 ^ 20 - 1) ⊗ w) ↑ 5 by # 1)
    ∷ (w ↑ 5 ⊑ # (2 ^ 256) ⊗ (p ⊕ # 4) by # ((2 ^ 20 - 1) ^ 5))
    ∷ (# (2 ^ 18 - 1) ⊗ p ⊕ # (2 ^ 20) ⊑ # (2 ^ 18) ⊗ q by # (2 ^ 338))
    ∷ [] ⊢ # (2 ^ 100) ⊗ v ↑ 5 ≼ # (2 ^ 100) ⊗ (# (2 ^ 256) ⊗ q)) tt
    w p q v (pow-le-pow_left below 5) power (omega (arith, near, floor_le p (2 ^ 18))))
    (lit< tt)
  where
    below : 2 ^ 20 * v ≤ (2 ^ 20 - 1) * w
    below = omega (arith, part, lt_floor w (2 ^ 20) (lit< tt))

pub lifted : (w p q v : ℕ) → 2 ^ 256 * p ≤ w ^ 5 → q - q / 2 ^ 18 < p → w + (w / 2 ^ 20 + 1) ≤ v → 2 ^ 256 * (q + 1) ≤ v ^ 5
lifted w p q v power near part =
    le_of_mul-le-mul_left {k = 2 ^ 100}
    (cert 4 (λ w p q v.
    ((# (2 ^ 20 + 1) ⊗ w) ↑ 5 ⊑ (# (2 ^ 20) ⊗ v) ↑ 5 by # 1)
    ∷ (# (2 ^ 256) ⊗ p ⊑ w ↑ 5 by # ((2 ^ 20 + 1) ^ 5))
    ∷ (# (2 ^ 18 - 1) ⊗ q ⊕ # (2 ^ 18) ⊑ # (2 ^ 18) ⊗ p by # (2 ^ 238 * (2 ^ 20 + 1) ^ 5))
    ∷ [] ⊢ # (2 ^ 100) ⊗ (# (2 ^ 256) ⊗ (q ⊕ # 1)) ≼ # (2 ^ 100) ⊗ v ↑ 5) tt
    w p q v (pow-le-pow_left above 5) power (omega (arith, near, floor_le q (2 ^ 18))))
    (lit< tt)
  where
    above : (2 ^ 20 + 1) * w ≤ 2 ^ 20 * v
    above = omega (arith, part, lt_floor w (2 ^ 20) (lit< tt))

-- a power that is not 0 is no guess of 0 or 1
pub some_guess : (w p : ℕ) → 0 < p → 2 ^ 256 * p ≤ w ^ 5 → w / 2 ^ 20 + 1 ≤ w
some_guess w p some power = go (dec_le 2 w)
  where
    small : w ≤ 1 → ⊥
    small h = not-le_of_lt (lit< tt) (le_trans (le_trans (mul-le-mul_left (2 ^ 256) some) power) (pow-le-pow_left h 5))

    go : Dec (2 ≤ w) → w / 2 ^ 20 + 1 ≤ w
    go (yes h) = omega arith
    go (no h) = absurd (small (omega arith))

-- ---- no luminance has the root 0
pub black_root : Enclosed 0 1 0
unfolding LowRoot HighRoot
black_root = record { low = λ _. omega arith; high = λ _. omega arith }

-- ---- the root g of a luminance y, scaled: y is scaled by a⁵, and g by 2²⁶ a
scaled : (g a : ℕ) → (g * (2 ^ 26 * a)) ^ 5 ≡ g ^ 5 * (2 ^ 130 * a ^ 5)
scaled g a = ring 2 (λ g a. (g ⊗ (# (2 ^ 26) ⊗ a)) ↑ 5 ≐ g ↑ 5 ⊗ (# (2 ^ 130) ⊗ a ↑ 5)) tt g a

module _ (y n a power : ℕ) (input : n ≡ y * a ^ 5) (some : 0 < a) where
  pub low_root : (v g : ℕ) → v ^ 5 ≤ 2 ^ 256 * power → power * 2 ^ 64 ≤ n * 838860800000000000 → g * (2 ^ 26 * a) ≤ v → LowRoot g y
  unfolding LowRoot
  low_root v g under weighed shifted =
      le_of_mul-le-mul_right {k = 2 ^ 194 * a ^ 5}
      (cert 6 (λ y n q v g x.
      (g ↑ 5 ⊗ (# (2 ^ 130) ⊗ x) ⊑ v ↑ 5 by # (2 ^ 64))
      ∷ (v ↑ 5 ⊑ # (2 ^ 256) ⊗ q by # (2 ^ 64))
      ∷ (q ⊗ # (2 ^ 64) ⊑ n ⊗ # 838860800000000000 by # (2 ^ 256))
      ∷ (n ⊑ y ⊗ x by # (2 ^ 256 * 838860800000000000))
      ∷ [] ⊢ g ↑ 5 ⊗ (# (2 ^ 194) ⊗ x) ≼ # (2 ^ 96 * fives) ⊗ y ⊗ (# (2 ^ 194) ⊗ x)) tt
      y n power v g (a ^ 5)
      (subst (λ (z : ℕ). z ≤ v ^ 5) (scaled g a) (pow-le-pow_left shifted 5))
      under
      weighed
      (omega arith))
      (mul-pos (lit< tt) (one-le-pow 5 a some))

  pub high_root : (v h : ℕ) → 2 ^ 256 * (power + 1) ≤ v ^ 5 → n * 838860800000000000 ≤ (power + 1) * 2 ^ 64 → v ≤ h * (2 ^ 26 * a) → HighRoot h y
  unfolding HighRoot
  high_root v h over weighed shifted =
      le_of_mul-le-mul_right {k = 2 ^ 194 * a ^ 5}
      (cert 6 (λ y n q v h x.
      (y ⊗ x ⊑ n by # (2 ^ 256 * 838860800000000000))
      ∷ (n ⊗ # 838860800000000000 ⊑ (q ⊕ # 1) ⊗ # (2 ^ 64) by # (2 ^ 256))
      ∷ (# (2 ^ 256) ⊗ (q ⊕ # 1) ⊑ v ↑ 5 by # (2 ^ 64))
      ∷ (v ↑ 5 ⊑ h ↑ 5 ⊗ (# (2 ^ 130) ⊗ x) by # (2 ^ 64))
      ∷ [] ⊢ # (2 ^ 96 * fives) ⊗ y ⊗ (# (2 ^ 194) ⊗ x) ≼ h ↑ 5 ⊗ (# (2 ^ 194) ⊗ x)) tt
      y n power v h (a ^ 5)
      (omega arith)
      weighed
      over
      (subst (λ (z : ℕ). v ^ 5 ≤ z) (scaled h a) (pow-le-pow_left shifted 5)))
      (mul-pos (lit< tt) (one-le-pow 5 a some))
