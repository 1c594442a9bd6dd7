-- The codes of a pixel by the shares of its components, and their bytes.
use Rattle.std.proofs.Common.{◌≡◌, ℕ, ◌+◌, ◌^◌, ◌<◌, ◌≤◌, List, get_or, pos, sym, ap, ◌∙◌, arith}
use Rattle.quantity.specs.Component.{Component, red, green, blue, Pixel, pixel}
use Rattle.rows.specs.Row.{pixel_bytes}
use Rattle.srgb.specs.LightTable.{linear_table}
use Rattle.srgb.specs.Conversion.{oetf_code, caption_codes}
use Rattle.srgb.proofs.LightLaws.{light_read, light_le}
use Rattle.srgb.proofs.ProductLaws.{scene_of}
use Rattle.srgb.proofs.PixelLaws.{lights_of, step_code, codes_are, codes_to}
use Rattle.srgb_hlg.specs.Codes.{HasCodes}
use Rattle.srgb_hlg.specs.Shares.{shared_light, Fit, Weight}

-- 53 times the rows of the product
abbrev pub shares : Component → Pixel
shares red = pixel 3325509592 1745237000 229628383
shares green = pixel 365836528 4873838872 60366205
shares blue = pixel 86609897 466302056 4746429257

-- and their weights
abbrev pub weights : Component → Pixel
weights red = pixel 2856590988 1499147167 197249279
weights green = pixel 314251184 4186595712 51854175
weights blue = pixel 74397335 400550416 4077151686

pub weight_of : (i j : Component) → Weight (shares i j) (weights i j)
weight_of red red = record { low = omega arith; high = omega arith }
weight_of red green = record { low = omega arith; high = omega arith }
weight_of red blue = record { low = omega arith; high = omega arith }
weight_of green red = record { low = omega arith; high = omega arith }
weight_of green green = record { low = omega arith; high = omega arith }
weight_of green blue = record { low = omega arith; high = omega arith }
weight_of blue red = record { low = omega arith; high = omega arith }
weight_of blue green = record { low = omega arith; high = omega arith }
weight_of blue blue = record { low = omega arith; high = omega arith }

-- ---- three lights
module _ (l : Pixel) (h : (i : Component) → l i ≤ 2 ^ 40) where
  pub shares_fit : (i : Component) → Fit (shares i) l
  shares_fit i = record { shares = sum i; first = h red; second = h green; third = h blue }
    where
      sum : (i : Component) → shares i red + shares i green + shares i blue ≤ 5300374975
      sum red = omega arith
      sum green = omega arith
      sum blue = omega arith

-- ---- lights that are read of a table which holds those of sRGB
module _ (t : List ℕ) (e : t ≡ linear_table) where
  pub read_le : (v : ℕ) → v < 256 → get_or t v 0 ≤ 2 ^ 40
  read_le v h = omega (arith, light_read t v e (omega arith), light_le v)

  -- and of a pixel
  pub lights_le : (r g b : ℕ) → r < 256 → g < 256 → b < 256 → (i : Component) → pixel (get_or t r 0) (get_or t g 0) (get_or t b 0) i ≤ 2 ^ 40
  lights_le r g b hr hg hb red = read_le r hr
  lights_le r g b hr hg hb green = read_le g hg
  lights_le r g b hr hg hb blue = read_le b hb

  -- by its shares of them a component has its code
  pub code_is : (r g b : ℕ) → r < 256 → g < 256 → b < 256 → (i : Component) {d : ℕ}
      → d ≡ oetf_code (pos (shared_light (shares i) (pixel (get_or t r 0) (get_or t g 0) (get_or t b 0)))) → d ≡ caption_codes (pixel r g b) i
  unfolding oetf_code
  code_is r g b hr hg hb i h = h ∙ ap step_code (same i) ∙ sym (codes_are (pixel r g b) i)
    where
      same : (i : Component) → shared_light (shares i) (pixel (get_or t r 0) (get_or t g 0) (get_or t b 0)) ≡ scene_of i (lights_of (pixel r g b))
      same red = rw (light_read t r e (omega arith), light_read t g e (omega arith), light_read t b e (omega arith)) (omega arith)
      same green = rw (light_read t r e (omega arith), light_read t g e (omega arith), light_read t b e (omega arith)) (omega arith)
      same blue = rw (light_read t r e (omega arith), light_read t g e (omega arith), light_read t b e (omega arith)) (omega arith)

-- ---- codes that a pixel has
pub codes_fit : (r g b : ℕ) {x y z : ℕ} → HasCodes r g b x y z → (x ≤ 721) × (y ≤ 721) × (z ≤ 721)
codes_fit r g b h =
    let p = pixel r g b in
    (omega (arith, h.red, codes_to p red), omega (arith, h.green, codes_to p green), omega (arith, h.blue, codes_to p blue))

-- their bytes
pub codes_bytes : {r g b x y z : ℕ} → HasCodes r g b x y z → pixel_bytes (pixel x y z) ≡ pixel_bytes (caption_codes (pixel r g b))
unfolding pixel_bytes
codes_bytes h = rw (h.red, h.green, h.blue)
