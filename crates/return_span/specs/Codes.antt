-- The PQ codes of any pixel (request 08), of ten bits and narrow range: HLG codes past their range are read at its nearer end.
use Rattle.std.specs.Prelude.{◌≡◌, ℕ}
use Rattle.quantity.specs.Component.{red, green, blue, pixel}
use Rattle.return_pixel.specs.Conversion.{pq_codes}

-- x, y, z are the PQ codes of the pixel r g b
pub record HasCodes (r g b x y z : ℕ) : Type 0 where
  pub red : x ≡ pq_codes (pixel r g b) red
  pub green : y ≡ pq_codes (pixel r g b) green
  pub blue : z ≡ pq_codes (pixel r g b) blue
