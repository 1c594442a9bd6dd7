-- Laws of luma and chroma of codes from 64 to 1,019: their ranges, greys, and a half. None has a luma below 64 or above 1,019, nor a chroma below 24 or
-- above 1,000, so that all are codes from 4 to 1,019.
use mathlib.Core.Path.{◌≡◌, refl}
use Prim.Native.Nat.{ℕ, ◌≤◌}
use native.Mathlib.Omega.{arith}
use Rattle.quantity.specs.Component.{Component, red, green, blue, Pixel, pixel}
use Rattle.ycbcr.specs.YCbCr.{luma, cb, cr, ycbcr}
use Rattle.ycbcr.proofs.WholeLaws.{luma_whole, cb_whole, cr_whole}

-- the codes of a pixel are HLG's
pub record InRange (p : Pixel) : Type 0 where
  pub least : (i : Component) → 64 ≤ p i
  pub most : (i : Component) → p i ≤ 1019

module _ (p : Pixel) (h : InRange p) where
  pub luma_range : (64 ≤ luma p) × (luma p ≤ 1019)
  luma_range =
      let e = luma_whole p (h.least red) (h.least green) (h.least blue) in
      (omega (arith, e, h.least red, h.least green, h.least blue), omega (arith, e, h.most red, h.most green, h.most blue))

  pub cb_range : (24 ≤ cb p) × (cb p ≤ 1000)
  cb_range =
      let e = cb_whole p (h.least red) (h.least green) (h.least blue) in
      (omega (arith, e, h.least blue, h.most red, h.most green), omega (arith, e, h.least red, h.least green, h.most blue))

  pub cr_range : (24 ≤ cr p) × (cr p ≤ 1000)
  cr_range =
      let e = cr_whole p (h.least red) (h.least green) (h.least blue) in
      (omega (arith, e, h.least red, h.most green, h.most blue), omega (arith, e, h.most red, h.least green, h.least blue))

  pub in_range : (i : Component) → (4 ≤ ycbcr p i) × (ycbcr p i ≤ 1019)
  in_range red = omega (arith, luma_range)
  in_range green = omega (arith, cb_range)
  in_range blue = omega (arith, cr_range)

-- a grey has its own code as luma, and the middle as both chroma
pub grey : (d : ℕ) → 64 ≤ d → (luma (pixel d d d) ≡ d) × (cb (pixel d d d) ≡ 512) × (cr (pixel d d d) ≡ 512)
grey d h =
    (omega (arith, luma_whole (pixel d d d) h h h), omega (arith, cb_whole (pixel d d d) h h h), omega (arith, cr_whole (pixel d d d) h h h))

-- a luma of a half goes up: these codes have 338.5 above black
pub half : luma (pixel 243 480 223) ≡ 403
unfolding luma
half = refl
