-- Laws of a pixel converted from HLG to PQ: the rule of its display lights, the range of its codes, black, and order among components and greys.
use mathlib.Core.Path.{◌≡◌, refl, ◌∙◌, ap}
use Prim.Native.Nat.{ℕ, ◌*◌, ◌≤◌, ◌<◌}
use native.Mathlib.Nat.{le_trans, lt_of_le_of_lt, not-le_of_lt}
use native.Mathlib.Decide.{dec_le}
use native.Mathlib.Omega.{arith}
use lib.Dec.{lit<}
use Rattle.quantity.specs.Units.{units}
use Rattle.quantity.specs.Component.{Component, red, green, blue, Pixel}
use Rattle.pq.specs.LightTable.{light_table, light_entry}
use Rattle.inverse_oetf.specs.SceneTable.{scene_light}
use Rattle.inverse_oetf.proofs.SceneLaws.{lights_grow, scene_le, dark}
use Rattle.ootf.specs.Light.{IsDisplayLight, display_light}
use Rattle.ootf.proofs.LightLaws.{light_is, light_at_most, light_grows, light_of_brighter, no_light_lem}
use Rattle.inverse_eotf.specs.Code.{threshold_light, pq_code}
use Rattle.inverse_eotf.proofs.CodeLaws.{thresholds_grow, code_from, code_reached, code_black, code_grows}
use Rattle.return_pixel.specs.Conversion.{scene_lights, scene_luminance, display_lights, pq_codes}

-- ---- the rule: no scene light is above that of code 1,019, so no display light is left out
luminance_le : (p : Pixel) → scene_luminance p ≤ 10000 * 1803467062476
luminance_le p = omega (arith, scene_le (p red), scene_le (p green), scene_le (p blue))

pub rule : (p : Pixel) (i : Component) → IsDisplayLight (scene_luminance p) (scene_lights p i) (display_lights p i)
rule p i = light_is (scene_luminance p) (scene_lights p i) (luminance_le p) (scene_le (p i))

-- ---- range: no light is above 1,811 cd/m2, which is short of code 780
pub codes_from : (p : Pixel) (i : Component) → 64 ≤ pq_codes p i
unfolding pq_codes
codes_from p i = code_from (display_lights p i)

short : 1811 * units < threshold_light 780
unfolding units light_entry light_table
short = lit< tt

code_short : (c : ℕ) → c ≤ 1811 * units → pq_code c ≤ 779
code_short c h = go (dec_le (pq_code c) 779)
  where
    go : Dec (pq_code c ≤ 779) → pq_code c ≤ 779
    go (yes r) = r
    go (no r) =
        absurd (not-le_of_lt (lt_of_le_of_lt h short)
        (le_trans (thresholds_grow 780 (pq_code c) (omega arith)) (code_reached c (omega arith))))

pub codes_to : (p : Pixel) (i : Component) → pq_codes p i ≤ 779
unfolding pq_codes
codes_to p i = code_short (display_lights p i) (light_at_most (scene_luminance p) (scene_lights p i) (luminance_le p) (scene_le (p i)))

-- ---- black: a component without light has the code of black, whatever the others are
pub black : (p : Pixel) (i : Component) → p i ≤ 64 → pq_codes p i ≡ 64
unfolding pq_codes
black p i h = ap (λ s. pq_code (display_light (scene_luminance p) s)) (dark (p i) h) ∙ ap pq_code (no_light_lem (scene_luminance p)) ∙ code_black

-- ---- order: a component with at least as much scene light as another has a display light and a code at least as large
pub ordered : (p : Pixel) (i j : Component) → scene_light (p i) ≤ scene_light (p j)
    → (display_lights p i ≤ display_lights p j) × (pq_codes p i ≤ pq_codes p j)
unfolding pq_codes
ordered p i j h =
    let l = light_grows (scene_luminance p) (scene_lights p i) (scene_lights p j) h in
    (l, code_grows (display_lights p i) (display_lights p j) l)

pub ordered_codes : (p : Pixel) (i j : Component) → p i ≤ p j → pq_codes p i ≤ pq_codes p j
ordered_codes p i j h = (ordered p i j (lights_grow (p i) (p j) h)).1

-- greys give greys, a larger code none darker
pub grey : (d : ℕ) (i j : Component) → pq_codes (λ k. d) i ≡ pq_codes (λ k. d) j
unfolding pq_codes
grey d i j = refl

pub greys_grow : (c d : ℕ) → c ≤ d → (i j : Component) → pq_codes (λ k. c) i ≤ pq_codes (λ k. d) j
unfolding pq_codes
greys_grow c d h i j =
    code_grows (display_lights (λ k. c) i) (display_lights (λ k. d) j)
    (light_of_brighter (scene_luminance (λ k. c)) (scene_light c) (scene_luminance (λ k. d)) (scene_light d) (omega (arith, l)) l)
  where
    l : scene_light c ≤ scene_light d
    l = lights_grow c d h
