-- The conversion of a pixel from HLG to PQ (request 08; document 001, section 6.2: HLG to PQ at 1,000 cd/m2), stage by stage. A pixel is three HLG codes.
use Rattle.std.specs.Prelude.{ℕ}
use Rattle.quantity.specs.Component.{Pixel, weighted}
use Rattle.inverse_oetf.specs.SceneTable.{scene_light}
use Rattle.ootf.specs.Light.{display_light}
use Rattle.inverse_eotf.specs.Code.{pq_code}

-- S: the scene lights of the three codes, in 1/2^40 of the nominal range
abbrev pub scene_lights : Pixel → Pixel
scene_lights p i = scene_light (p i)

-- Y: their luminance, in ten-thousandths of that
abbrev pub scene_luminance : Pixel → ℕ
scene_luminance p = weighted (scene_lights p)

-- c: the light that a display of 1,000 cd/m2 shows of each, in units of 1/16,777,216 cd/m2
abbrev pub display_lights : Pixel → Pixel
display_lights p i = display_light (scene_luminance p) (scene_lights p i)

-- the three PQ codes
unfoldable pub pq_codes : Pixel → Pixel
pq_codes p i = pq_code (display_lights p i)
