-- The HLG codes of a pixel of sRGB values (request 13), one by one.
use Rattle.std.specs.Prelude.{◌≡◌, ℕ}
use Rattle.quantity.specs.Component.{red, green, blue, pixel}
use Rattle.srgb.specs.Conversion.{caption_codes}

-- x, y, z are the HLG codes of the values r, g, b
pub record HasCodes (r g b x y z : ℕ) : Type 0 where
  pub red : x ≡ caption_codes (pixel r g b) red
  pub green : y ≡ caption_codes (pixel r g b) green
  pub blue : z ≡ caption_codes (pixel r g b) blue
