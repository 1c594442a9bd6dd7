-- Greys as HLG codes. The decimals of the two matrices give red a little more of a grey than green and blue a little less, so that 13 of the 256 greys come
-- out with a red code one above the blue one; in all others the three codes are equal.
use mathlib.Core.Path.{◌≡◌, refl, sym, ◌∙◌, ap, subst₂}
use mathlib.Core.Bool.{Bool, true, false, cond, ◌&&◌, ◌||◌}
use mathlib.Core.List.{List, [], ◌∷◌}
use Prim.Native.Nat.{ℕ, zero, suc, ◌+◌, ◌≤◌}
use native.Mathlib.Nat.{zero-add}
use native.Mathlib.Omega.{arith}
use lib.Dec.{T, eqb}
use lib.Ieee.Fits.{and_l, and_r}
use Rattle.laws.proofs.ComputedTests.{every_hinted, at_hinted}
use Rattle.laws.proofs.DivisionLaws.{floor_grows}
use Rattle.laws.proofs.ThresholdLaws as threshold
use Rattle.quantity.specs.Component.{Component, red, green, blue}
use Rattle.hlg_steps.specs.StepTable.{step_table, step}
use Rattle.srgb.specs.LightTable.{linear_table, linear_light}
use Rattle.srgb.specs.Conversion.{caption_codes}
use Rattle.srgb.proofs.LightLaws.{table_length, light_read}
use Rattle.srgb.proofs.ProductLaws.{scene_of}
use Rattle.srgb.proofs.PixelLaws.{step_code, codes_are, black}
use Rattle.srgb.proofs.BetweenLaws.{between, between→}
use Rattle.srgb.proofs.GreyHints.{blue_codes}

-- the values of the 13
abbrev pub tinted : List ℕ
tinted = 55 ∷ 68 ∷ 117 ∷ 138 ∷ 149 ∷ 172 ∷ 176 ∷ 181 ∷ 188 ∷ 218 ∷ 233 ∷ 241 ∷ 250 ∷ []

abbrev pub among : ℕ → List ℕ → Bool
among v [] = false
among v (x ∷ xs) = eqb v x || among v xs

-- how far the red code of a grey lies above its blue one
abbrev pub tint : ℕ → ℕ
tint v = cond (among v tinted) 1 0

-- ---- the test of value v, whose light is s, with a guess of its blue code; black is looked at apart
abbrev grey_test : ℕ → ℕ → ℕ → Bool
grey_test zero s d = true
grey_test (suc v) s d = between (scene_of blue (λ k. s)) d && between (scene_of red (λ k. s)) (d + tint (suc v))

greys_pass : T (every_hinted grey_test 0 linear_table blue_codes)
unfolding linear_table blue_codes step step_table
greys_pass = tt

-- ---- what it shows
codes_of : (v : ℕ) (i : Component) → caption_codes (λ k. v) i ≡ step_code (scene_of i (λ k. linear_light v))
codes_of v i = codes_are (λ k. v) i

pub red_above_blue : (v : ℕ) → v ≤ 255 → caption_codes (λ k. v) red ≡ caption_codes (λ k. v) blue + tint v
red_above_blue zero h = omega (arith, black red, black blue)
red_above_blue (suc v) h =
    let passed = at_hinted grey_test linear_table blue_codes 0 greys_pass (suc v) (omega (arith, table_length)) in
    shown passed.0
    (subst₂ (λ (n s : ℕ). T (grey_test n s passed.0)) (zero-add (suc v)) (light_read linear_table (suc v) refl h) passed.1)
  where
    shown : (d : ℕ) → T (grey_test (suc v) (linear_light (suc v)) d) → caption_codes (λ k. suc v) red ≡ caption_codes (λ k. suc v) blue + tint (suc v)
    shown d t =
        let b = between (scene_of blue (λ k. linear_light (suc v))) d in
        let r = between (scene_of red (λ k. linear_light (suc v))) (d + tint (suc v)) in
        codes_of (suc v) red ∙ between→ _ _ (and_r b r t)
        ∙ sym (ap (λ (n : ℕ). n + tint (suc v)) (codes_of (suc v) blue ∙ between→ _ _ (and_l b r t)))

-- the green code lies from the blue one to the red one
pub green_between : (v : ℕ) → (caption_codes (λ k. v) blue ≤ caption_codes (λ k. v) green) × (caption_codes (λ k. v) green ≤ caption_codes (λ k. v) red)
green_between v = (
  subst₂ ◌≤◌ (sym (codes_of v blue)) (sym (codes_of v green)) (threshold.reached_grows step 64 955 _ _ (floor_grows _ _ 20000000000 (omega arith))),
  subst₂ ◌≤◌ (sym (codes_of v green)) (sym (codes_of v red)) (threshold.reached_grows step 64 955 _ _ (floor_grows _ _ 20000000000 (omega arith))),
)
