-- Luma and chroma of codes from 64 on as one division each. A chroma is so many parts of an odd number and lies on no half.
use mathlib.Core.Path.{◌≡◌, refl}
use mathlib.Core.Bool.{Bool, true, false, cond}
use Prim.Native.Nat.{◌+◌, ◌*◌, ◌-◌, ◌/◌, ◌≤◌, ◌<◌}
use native.Mathlib.Nat.{mul-pos, zero-lt-suc}
use native.Mathlib.Omega.{arith}
use lib.Dec.{leb}
use borrow.Author.Tests.{leb-true, leb-false}
use Rattle.laws.specs.Fraction.{Fraction, over, whole}
use Rattle.quantity.specs.Component.{red, green, blue, Pixel, weighted}
use Rattle.ycbcr.specs.Rounding.{Signed, plus, minus, decimal, ◌⊖◌, ◌⊙◌, divided, ◌+round◌}
use Rattle.ycbcr.specs.YCbCr.{signal, luma_signal, luma, cb, cr}

-- what holds of a difference with either sign holds of it
by_sign : (P : Signed → Type 0) (p q : Fraction)
    → (q.num * p.den ≤ p.num * q.den → P (plus (over (p.num * q.den - q.num * p.den) (p.den * q.den) (mul-pos p.pos q.pos))))
    → (p.num * q.den < q.num * p.den → P (minus (over (q.num * p.den - p.num * q.den) (p.den * q.den) (mul-pos p.pos q.pos))))
    → P (p ⊖ q)
by_sign P p q above below = go (leb (q.num * p.den) (p.num * q.den)) (λ t. above (leb-true _ _ t)) (λ t. below (leb-false _ _ t))
  where
    go : {x y : Signed} (b : Bool) → (b ≡ true → P x) → (b ≡ false → P y) → P (cond b x y)
    go true h k = h refl
    go false h k = k refl

module _ (p : Pixel) (hr : 64 ≤ p red) (hg : 64 ≤ p green) (hb : 64 ≤ p blue) where
  pub luma_whole : luma p ≡ (weighted p + 5000) / 10000
  unfolding luma
  luma_whole = omega arith

  pub cb_whole : cb p ≡ (1120000 * p blue + 1055818162 - 112 * weighted p) / 2060133
  unfolding cb
  cb_whole =
      by_sign
      (λ x. 512 +round divided (x ⊙ whole 896) (decimal 1 8814) (zero-lt-suc 18813) ≡ (1120000 * p blue + 1055818162 - 112 * weighted p) / 2060133)
      (signal (p blue)) (luma_signal p)
      (λ h. omega arith)
      (λ h. omega arith)

  pub cr_whole : cr p ≡ (1120000 * p red + 827527087 - 112 * weighted p) / 1614687
  unfolding cr
  cr_whole =
      by_sign
      (λ x. 512 +round divided (x ⊙ whole 896) (decimal 1 4746) (zero-lt-suc 14745) ≡ (1120000 * p red + 827527087 - 112 * weighted p) / 1614687)
      (signal (p red)) (luma_signal p)
      (λ h. omega arith)
      (λ h. omega arith)
