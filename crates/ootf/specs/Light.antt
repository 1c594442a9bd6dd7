-- The display light of an HLG component (request 08): BT.2100's HLG OOTF (gamma 1.2) for a display of 1,000 cd/m2. Scene light in 1/2^40 of the nominal
-- range, display light in units.
use Rattle.std.specs.Prelude.{◌≡◌, Bool, ℕ, min, ◌*◌, ◌^◌, ◌≤◌, leb}
use Rattle.laws.specs.Largest.{largest}
use Rattle.quantity.specs.Units.{thousand, ten_thousand}
use Rattle.quantity.specs.Component.{pixel, weighted}
use Rattle.inverse_oetf.specs.SceneTable.{scene_light}

-- a component with scene light S has a display light of at least c where c⁵ × 10,000 × 2²⁴⁰ ≤ A⁵ × Y × S⁵. Y is the luminance of the pixel's three scene
-- lights, in ten-thousandths of their unit
abbrev pub light_side : ℕ → ℕ
light_side c = c ^ 5 * 10000 * 2 ^ 240

abbrev pub scene_side : ℕ → ℕ → ℕ
scene_side Y S = thousand ^ 5 * Y * S ^ 5

-- c is the display light: the largest whole one of which that holds
pub record IsDisplayLight (Y S c : ℕ) : Type 0 where
  pub reached : light_side c ≤ scene_side Y S
  pub largest : (u : ℕ) → light_side u ≤ scene_side Y S → u ≤ c

-- that light; no code's is above 10,000 cd/m2
unfoldable pub at_least : ℕ → ℕ → ℕ → Bool
at_least Y S c = leb (light_side c) (scene_side Y S)

unfoldable pub display_light : ℕ → ℕ → ℕ
display_light Y S = largest (at_least Y S) 0 ten_thousand

-- a scene light as it is read: no code has more than 1,019 has
abbrev pub scene_read : ℕ → ℕ
scene_read s = min s (scene_light 1019)

-- x, y, z are the display lights of a pixel whose scene lights are r, g, b
abbrev pub OfComponent : ℕ → ℕ → ℕ → Type 0
OfComponent Y S c = (c ≡ display_light Y S) × IsDisplayLight Y S c

pub record DisplayLights (r g b x y z : ℕ) : Type 0 where
  pub red : OfComponent (weighted (pixel r g b)) r x
  pub green : OfComponent (weighted (pixel r g b)) g y
  pub blue : OfComponent (weighted (pixel r g b)) b z
