-- Scene lights and codes that a pixel has: their range, and the codes' bytes.
use Rattle.std.proofs.Common.{◌≡◌, ℕ, ◌≤◌, sym, subst, arith}
use Rattle.quantity.specs.Component.{red, green, blue, Pixel, pixel}
use Rattle.inverse_oetf.specs.SceneTable.{scene_light}
use Rattle.inverse_oetf.proofs.SceneLaws.{scene_le}
use Rattle.return_pixel.specs.Conversion.{pq_codes}
use Rattle.return_pixel.proofs.PixelLaws.{codes_to}
use Rattle.rows.specs.Row.{pixel_bytes}
use Rattle.return_span.specs.declared.scene.Rooted.{Rooted}
use Rattle.return_span.specs.Codes.{HasCodes}
use Rattle.return_span.specs.Settled.{SceneCodes, OfCodes, IsRooted}

-- no code has more scene light than 1,019
pub within : (d : ℕ) {s : ℕ} → s ≡ scene_light d → s ≤ 1803467062476
within d e = subst (λ (x : ℕ). x ≤ 1803467062476) (sym e) (scene_le d)

pub of_codes : (p : Pixel) (own : Rooted) → IsRooted p own → OfCodes own.scene
of_codes p own h = (within (p red) h.red, within (p green) h.green, within (p blue) h.blue)

-- codes of a pixel's scene lights are the pixel's
pub has_codes : (p : Pixel) (own : Rooted) {x y z : ℕ} → IsRooted p own → SceneCodes own.scene.red own.scene.green own.scene.blue x y z
    → HasCodes (p red) (p green) (p blue) x y z
unfolding pq_codes
has_codes p own h k = let e = rw (h.red, h.green, h.blue) at k in record { red = e.red; green = e.green; blue = e.blue }

pub codes_fit : (r g b : ℕ) {x y z : ℕ} → HasCodes r g b x y z → (x ≤ 940) × (y ≤ 940) × (z ≤ 940)
codes_fit r g b h =
    let p = pixel r g b in
    (omega (arith, h.red, codes_to p red), omega (arith, h.green, codes_to p green), omega (arith, h.blue, codes_to p blue))

-- the bytes of a pixel's codes
pub codes_bytes : (p : Pixel) {x y z : ℕ} → HasCodes (p red) (p green) (p blue) x y z → pixel_bytes (pixel x y z) ≡ pixel_bytes (pq_codes p)
unfolding pixel_bytes pq_codes
codes_bytes p h = rw (h.red, h.green, h.blue)
