-- White and the primaries as scene lights, computed by the definition itself; black, white and the other six corners of the cube of values as HLG codes, each
-- by its step and the next one.
use mathlib.Core.Path.{◌≡◌, refl, ◌∙◌}
use Prim.Native.Nat.{ℕ, ◌^◌}
use lib.IntN.{pos}
use lib.Dec.{T}
use Rattle.quantity.specs.Component.{Component, red, green, blue, Pixel, pixel}
use Rattle.hlg_steps.specs.StepTable.{step_table, step}
use Rattle.srgb.specs.LightTable.{linear_table, linear_light}
use Rattle.srgb.specs.Conversion.{triple, scene_lights, caption_codes}
use Rattle.srgb.proofs.ProductLaws.{scene_of}
use Rattle.srgb.proofs.PixelLaws.{lights_of, codes_are, black}
use Rattle.srgb.proofs.BetweenLaws.{between, between→}

-- three lights have these scene lights, in 1/2^40
abbrev Lit : ℕ → ℕ → ℕ → ℕ → ℕ → ℕ → Type 0
Lit l m n r g b =
    let s = scene_lights (triple (pos l) (pos m) (pos n)) in
    (s red ≡ pos r) × (s green ≡ pos g) × (s blue ≡ pos b)

pub lights :
    Lit (2 ^ 40) (2 ^ 40) (2 ^ 40) 291391195829 291372868619 291334363997 ×
    Lit (2 ^ 40) 0 0 182821823234 20112075820 4761429441 ×
    Lit 0 (2 ^ 40) 0 95945418736 267942125583 25635226631 ×
    Lit 0 0 (2 ^ 40) 12623953858 3318667216 260937707924
lights = ((refl, refl, refl), (refl, refl, refl), (refl, refl, refl), (refl, refl, refl))

abbrev Becomes : Pixel → ℕ → ℕ → ℕ → Type 0
Becomes p r g b = (caption_codes p red ≡ r) × (caption_codes p green ≡ g) × (caption_codes p blue ≡ b)

shown : (p : Pixel) (i : Component) (d : ℕ) → T (between (scene_of i (lights_of p)) d) → caption_codes p i ≡ d
shown p i d t = codes_are p i ∙ between→ (scene_of i (lights_of p)) d t

pub corners :
    Becomes (λ k. 0) 64 64 64 ×
    Becomes (pixel 255 0 0) 639 269 164 ×
    Becomes (pixel 0 255 0) 512 707 296 ×
    Becomes (pixel 0 0 255) 227 147 702 ×
    Becomes (pixel 255 255 0) 713 719 316 ×
    Becomes (pixel 0 255 255) 538 709 718 ×
    Becomes (pixel 255 0 255) 651 285 705 ×
    Becomes (pixel 255 255 255) 721 721 721
unfolding linear_light linear_table step step_table
corners = (
  (black red, black green, black blue),
  (shown _ red 639 tt, shown _ green 269 tt, shown _ blue 164 tt),
  (shown _ red 512 tt, shown _ green 707 tt, shown _ blue 296 tt),
  (shown _ red 227 tt, shown _ green 147 tt, shown _ blue 702 tt),
  (shown _ red 713 tt, shown _ green 719 tt, shown _ blue 316 tt),
  (shown _ red 538 tt, shown _ green 709 tt, shown _ blue 718 tt),
  (shown _ red 651 tt, shown _ green 285 tt, shown _ blue 705 tt),
  (shown _ red 721 tt, shown _ green 721 tt, shown _ blue 721 tt),
)
