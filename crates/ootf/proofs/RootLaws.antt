-- Bounds of a luminance's root decide whether a display light is reached: by fifth powers, with nothing about rounding.
use mathlib.Core.Path.{◌≡◌, subst₂}
use Prim.Native.Nat.{ℕ, ◌*◌, ◌^◌, ◌≤◌, ◌<◌}
use native.Mathlib.Nat.{not-le_of_lt, lt_of_not-le, pow-le-pow_left, pow-lt-pow_left}
use native.Mathlib.Nat.{mul-le-mul_left, le_of_mul-le-mul_right, lt_of_mul-lt-mul_right}
use native.Mathlib.Omega.{arith}
use lib.Dec.{lit<}
use Rattle.laws.proofs.PowerLaws.{of_product}
use Rattle.quantity.specs.Units.{ten_thousand}
use Rattle.ootf.specs.Light.{display_light}
use Rattle.ootf.specs.Root.{fives, LowRoot, HighRoot}
use Rattle.ootf.proofs.CancelledLaws.{cancelled, restored}
use Rattle.ootf.proofs.LightLaws.{reached_le, missed_above}

scaled : (c : ℕ) → (c * 2 ^ 41) ^ 5 ≡ c ^ 5 * 2 ^ 205
scaled c = of_product c (2 ^ 41) 5

-- ---- with fifth powers c, s, g: c a b against s g, where g is at most or at least a k y
under : (c s g y k a b : ℕ) → 0 < a → g ≤ a * k * y → c * (b * a) ≤ s * g → c * b ≤ k * y * s
under c s g y k a b pos h l =
    le_of_mul-le-mul_right {k = a} (omega (arith, l, mul-le-mul_left s h)) pos

over : (c s g y k a b : ℕ) → a * k * y ≤ g → s * g < c * (b * a) → k * y * s < c * b
over c s g y k a b h l =
    lt_of_mul-lt-mul_right a (omega (arith, l, mul-le-mul_left s h))

pub reached_by_root : (Y S c g : ℕ) → c ≤ ten_thousand → LowRoot g Y → c * 2 ^ 41 ≤ S * g → c ≤ display_light Y S
unfolding LowRoot
reached_by_root Y S c g top h l =
    let p : c ^ 5 * 2 ^ 205 ≤ S ^ 5 * g ^ 5 = subst₂ ◌≤◌ (scaled c) (of_product S g 5) (pow-le-pow_left l 5) in
    reached_le Y S c top (restored Y S c (under (c ^ 5) (S ^ 5) (g ^ 5) Y fives (2 ^ 96) (2 ^ 109) (lit< tt) h p))

pub missed_by_root : (Y S c h : ℕ) → HighRoot h Y → S * h < c * 2 ^ 41 → display_light Y S < c
unfolding HighRoot
missed_by_root Y S c h u l =
    missed_above Y S c (lt_of_not-le (λ r. not-le_of_lt (over (c ^ 5) (S ^ 5) (h ^ 5) Y fives (2 ^ 96) (2 ^ 109) u p) (cancelled Y S c r)))
  where
    five : ◌≡◌ {A = ℕ} 5 0 → ⊥
    five e = omega arith

    p : S ^ 5 * h ^ 5 < c ^ 5 * 2 ^ 205
    p = subst₂ ◌<◌ (of_product S h 5) (scaled c) (pow-lt-pow_left {n = 5} l five)
