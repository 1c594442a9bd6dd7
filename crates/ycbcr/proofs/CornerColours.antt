-- Document 002's corner colours in Y'CbCr, computed from their RGB codes.
use mathlib.Core.Path.{◌≡◌, refl, ◌∙◌, ap, fun_ext}
use Prim.Native.Nat.{ℕ}
use Rattle.quantity.specs.Source.{graded_at}
use Rattle.quantity.specs.Component.{red, green, blue, Pixel, pixel}
use Rattle.pixel.specs.Conversion.{code}
use Rattle.pixel.specs.CornerPixels.{Converts}
use Rattle.pixel.proofs.CornerPixels.{corner_pixels}
use Rattle.ycbcr.specs.YCbCr.{luma, cb, cr}
use Rattle.ycbcr.specs.CornerColours.{Gives, CornerColours}

-- what a pixel gives goes by its codes
by_codes : {p : Pixel} {r g b x y z : ℕ} → Converts 1000 p r g b → luma (pixel r g b) ≡ x → cb (pixel r g b) ≡ y → cr (pixel r g b) ≡ z → Gives p x y z
by_codes {p} {r} {g} {b} c ex ey ez =
    let codes : code (graded_at 1000) p ≡ pixel r g b = fun_ext (elim [ red ↦ c.to_red | green ↦ c.to_green | blue ↦ c.to_blue ]) in
    record { to_luma = ap luma codes ∙ ex; to_cb = ap cb codes ∙ ey; to_cr = ap cr codes ∙ ez }

pub corner_colours : CornerColours
unfolding luma cb cr
corner_colours = record {
  black = by_codes corner_pixels.black refl refl refl;
  pure_red = by_codes corner_pixels.pure_red refl refl refl;
  pure_green = by_codes corner_pixels.pure_green refl refl refl;
  pure_blue = by_codes corner_pixels.pure_blue refl refl refl;
  yellow = by_codes corner_pixels.yellow refl refl refl;
  cyan = by_codes corner_pixels.cyan refl refl refl;
  magenta = by_codes corner_pixels.magenta refl refl refl;
  white = by_codes corner_pixels.white refl refl refl;
}
