-- Laws of a pixel converted from sRGB to HLG: its codes by whole numbers, the range of its scene lights and codes, black, and growth with each value.
use mathlib.Core.Path.{◌≡◌, sym, ◌∙◌, ap, subst, subst₂}
use Prim.Native.Nat.{ℕ, ◌≤◌, ◌<◌}
use native.Mathlib.Nat.{le_trans, lt_of_le_of_lt, not-le_of_lt, mul-le-mul_left}
use native.Mathlib.Decide.{dec_le}
use native.Mathlib.Omega.{arith}
use lib.Dec.{lit<}
use lib.IntN.{pos}
use Rattle.laws.proofs.DivisionLaws.{floor_grows}
use Rattle.laws.proofs.ThresholdLaws.{last_reached}
use Rattle.laws.proofs.ThresholdLaws as threshold
use Rattle.quantity.specs.Component.{Component, red, green, blue, Pixel}
use Rattle.hlg_steps.specs.StepTable.{step_table, step}
use Rattle.hlg_steps.proofs.StepLaws.{steps_grow, first_step}
use Rattle.srgb.specs.LightTable.{linear_light}
use Rattle.srgb.specs.Conversion.{scene_lights, linear_lights, oetf_code, caption_codes}
use Rattle.srgb.proofs.LightLaws.{no_light_lem, light_le, lights_grow}
use Rattle.srgb.proofs.ProductLaws.{product, mixed, scene_of, scene_is}

-- the lights of a pixel's values, and the code of a light that is not negative
abbrev pub lights_of : Pixel → Pixel
lights_of p i = linear_light (p i)

abbrev pub step_code : ℕ → ℕ
step_code = last_reached step 64 955

-- no scene light is negative
pub scene_whole : (p : Pixel) (i : Component) → scene_lights (linear_lights p) i ≡ pos (scene_of i (lights_of p))
scene_whole p = scene_is (lights_of p)

pub codes_are : (p : Pixel) (i : Component) → caption_codes p i ≡ step_code (scene_of i (lights_of p))
unfolding caption_codes oetf_code
codes_are p i = ap oetf_code (scene_whole p i)

-- ---- range: no scene light is above the red one of white, which is short of code 722
pub scene_le : (p : Pixel) (i : Component) → scene_of i (lights_of p) ≤ 291391195829
scene_le p red = omega (arith, light_le (p red), light_le (p green), light_le (p blue))
scene_le p green = omega (arith, light_le (p red), light_le (p green), light_le (p blue))
scene_le p blue = omega (arith, light_le (p red), light_le (p green), light_le (p blue))

short : 291391195829 < step 722
unfolding step step_table
short = lit< tt

pub codes_from : (p : Pixel) (i : Component) → 64 ≤ caption_codes p i
codes_from p i = subst (λ (d : ℕ). 64 ≤ d) (sym (codes_are p i)) (threshold.reached_found step 64 955 (scene_of i (lights_of p))).from

code_short : (s : ℕ) → s ≤ 291391195829 → step_code s ≤ 721
code_short s h = go (dec_le (step_code s) 721)
  where
    go : Dec (step_code s ≤ 721) → step_code s ≤ 721
    go (yes r) = r
    go (no r) =
        absurd (not-le_of_lt (lt_of_le_of_lt h short)
        (le_trans (steps_grow 722 (step_code s) (omega arith)) (threshold.reached step 64 955 s (omega arith))))

pub codes_to : (p : Pixel) (i : Component) → caption_codes p i ≤ 721
codes_to p i = subst (λ (d : ℕ). d ≤ 721) (sym (codes_are p i)) (code_short (scene_of i (lights_of p)) (scene_le p i))

-- ---- black
pub black : (i : Component) → caption_codes (λ k. 0) i ≡ 64
black i =
    codes_are (λ k. 0) i ∙ ap step_code (dark i)
    ∙ sym (threshold.settled step 64 955 steps_grow 0 0 0 64 (omega arith) (omega arith) (omega arith) (omega arith) (λ h. absurd (omega arith))
    (λ h. omega (arith, first_step)))
  where
    dark : (i : Component) → scene_of i (lights_of (λ k. 0)) ≡ 0
    dark red = omega (arith, no_light_lem)
    dark green = omega (arith, no_light_lem)
    dark blue = omega (arith, no_light_lem)

-- ---- a pixel with no smaller value has no smaller light and no smaller code
mixed_grows : (share l m : Pixel) → ((i : Component) → l i ≤ m i) → mixed share l ≤ mixed share m
mixed_grows share l m h =
    let r = mul-le-mul_left (share red) (h red) in
    let g = mul-le-mul_left (share green) (h green) in
    let b = mul-le-mul_left (share blue) (h blue) in
    omega arith

pub codes_grow : (p q : Pixel) → ((i : Component) → p i ≤ q i) → (i : Component) → caption_codes p i ≤ caption_codes q i
codes_grow p q h i =
    subst₂ ◌≤◌ (sym (codes_are p i)) (sym (codes_are q i))
    (threshold.reached_grows step 64 955 _ _
    (floor_grows _ _ 20000000000
    (mul-le-mul_left 53 (mixed_grows (product i) (lights_of p) (lights_of q) (λ j. lights_grow (p j) (q j) (h j))))))
