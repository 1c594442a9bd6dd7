-- The HLG code of a mapped component (scope, HLG code): BT.2100's inverse HLG OOTF (gamma 1.2), then its OETF. Light in units, steps in 1/2^40.
use Rattle.std.specs.Prelude.{◌≡◌, Bool, ◌&&◌, ℕ, ◌*◌, ◌^◌, leb, ltb}
use Rattle.laws.specs.Largest.{largest}
use Rattle.quantity.specs.Units.{thousand}
use Rattle.quantity.specs.Component.{pixel, weighted}
use Rattle.hlg_steps.specs.StepTable.{step}

-- Y, the luminance of the mapped three, in ten-thousandths of a unit
abbrev pub luminance : ℕ → ℕ → ℕ → ℕ
luminance r g b = weighted (pixel r g b)

-- a component R of a pixel with luminance Y reaches the step T: T⁶ × A⁵ × Y ≤ 2²⁴⁰ × 10,000 × R⁶, with R above 0
unfoldable pub reaches : ℕ → ℕ → ℕ → Bool
reaches T Y R = ltb 0 R && leb (T ^ 6 * thousand ^ 5 * Y) (2 ^ 240 * 10000 * R ^ 6)

-- the largest code from 65 to 1,019 whose step is reached, else 64
unfoldable pub hlg_code : ℕ → ℕ → ℕ
hlg_code Y R = largest (λ d. reaches (step d) Y R) 64 955

-- the HLG codes r, g, b of a pixel whose mapped components are R, G, B
pub record HlgCodes (R G B r g b : ℕ) : Type 0 where
  pub red : r ≡ hlg_code (luminance R G B) R
  pub green : g ≡ hlg_code (luminance R G B) G
  pub blue : b ≡ hlg_code (luminance R G B) B
