-- Bounds of a luminance's root decide whether a step is reached: by sixth powers, with nothing about rounding.
use mathlib.Core.Path.{◌≡◌, refl, subst₂}
use mathlib.Core.Bool.{Bool, true, false}
use Prim.Native.Nat.{ℕ, zero, suc, ◌*◌, ◌^◌, ◌≤◌, ◌<◌}
use native.Mathlib.Nat.{le_trans, le_of_eq, lt_of_le_of_lt, lt_of_lt_of_le, not-le_of_lt, pow-le-pow_left, pow-lt-pow_left}
use native.Mathlib.Nat.{mul-le-mul_left, mul-lt-mul_of_pos_left, le_of_mul-le-mul_right, lt_of_mul-lt-mul_right}
use native.Mathlib.Omega.{arith}
use lib.Dec.{lit<, lit≤}
use Rattle.laws.proofs.PowerLaws.{of_product}
use Rattle.hlg.specs.Code.{reaches}
use Rattle.hlg.specs.Root.{LowRoot, HighRoot}
use Rattle.hlg.proofs.ReachLaws.{reached, reaching}
use Rattle.hlg.proofs.CancelledLaws.{C, K, cancelled, restored}

scaled : (t : ℕ) → (t * 2 ^ 17) ^ 6 ≡ t ^ 6 * 2 ^ 102
scaled t = of_product t (2 ^ 17) 6

-- ---- with sixth powers t, r, g: t b against r g, where g k y is at most or at least c b
under : (t r g y k b c : ℕ) → 0 < b → g * k * y ≤ c * b → t * b ≤ r * g → t * k * y ≤ c * r
under t r g y k b c pos h l =
    let e1 : t * k * y * b ≡ y * k * (t * b) = omega arith in
    let e2 : y * k * (r * g) ≡ r * (g * k * y) = omega arith in
    let e3 : r * (c * b) ≡ c * r * b = omega arith in
    le_of_mul-le-mul_right {k = b}
    (le_trans (le_of_eq e1) (le_trans (mul-le-mul_left (y * k) l) (le_trans (le_of_eq e2) (le_trans (mul-le-mul_left r h) (le_of_eq e3)))))
    pos

over : (t r g y k b c : ℕ) → 0 < y * k → c * b ≤ g * k * y → r * g < t * b → c * r < t * k * y
over t r g y k b c pos h l =
    let e1 : c * r * b ≡ r * (c * b) = omega arith in
    let e2 : r * (g * k * y) ≡ y * k * (r * g) = omega arith in
    let e3 : y * k * (t * b) ≡ t * k * y * b = omega arith in
    lt_of_mul-lt-mul_right b
    (lt_of_le_of_lt (le_trans (le_of_eq e1) (le_trans (mul-le-mul_left r h) (le_of_eq e2))) (lt_of_lt_of_le (mul-lt-mul_of_pos_left l pos) (le_of_eq e3)))

pub reached_by_root : (t y r g : ℕ) → 0 < r → LowRoot g y → t * 2 ^ 17 ≤ r * g → reaches t y r ≡ true
unfolding LowRoot C K
reached_by_root t y r g some h l =
    let p : t ^ 6 * 2 ^ 102 ≤ r ^ 6 * g ^ 6 = subst₂ ◌≤◌ (scaled t) (of_product r g 6) (pow-le-pow_left l 6) in
    reaching t y r (restored (record { some = some; power = under (t ^ 6) (r ^ 6) (g ^ 6) y K (2 ^ 102) C (lit< tt) h p }))

-- no luminance is 0 that has an upper root
lit : (h y : ℕ) → 1 ≤ h * K * y → 0 < y * K
unfolding K
lit h zero l = absurd (omega arith)
lit h (suc y) l = omega arith

pub missed_by_root : (t y r h : ℕ) → HighRoot h y → r * h < t * 2 ^ 17 → reaches t y r ≡ false
unfolding HighRoot C K
missed_by_root t y r h u l = go (reaches t y r) refl
  where
    six : ◌≡◌ {A = ℕ} 6 0 → ⊥
    six e = omega arith

    p : r ^ 6 * h ^ 6 < t ^ 6 * 2 ^ 102
    p = subst₂ ◌<◌ (of_product r h 6) (scaled t) (pow-lt-pow_left {n = 6} l six)

    go : (b : Bool) → reaches t y r ≡ b → reaches t y r ≡ false
    go false e = e
    go true e =
        absurd (not-le_of_lt (over (t ^ 6) (r ^ 6) (h ^ 6) y K (2 ^ 102) C (lit (h ^ 6) y (le_trans (lit≤ tt) u)) u p) (cancelled (reached t y r e)).power)
