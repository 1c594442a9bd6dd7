-- The voted property (demand 3): how far HLG codes lie from their exact values, and in which order they stand.
use Rattle.std.specs.Prelude.{◌⊎◌, ℕ, ◌+◌, ◌*◌, ◌≤◌, ◌<◌}
use Rattle.laws.specs.Fraction.{Fraction}
use Rattle.laws.specs.Side.{Side}
use Rattle.quantity.specs.Units.{units, thousand}
use Rattle.quantity.specs.declared.sample_format.Range.{Range}
use Rattle.quantity.specs.declared.sample_format.Range.TheVariants.{Narrow, Full}
use Rattle.quantity.specs.declared.Source.{Source}
use Rattle.quantity.specs.SampleFormat.{least_taken, most_taken}
use Rattle.quantity.specs.Component.{Component, Pixel, brightest}
use Rattle.position.specs.Position.{position_of}
use Rattle.position.specs.Code.{code_position, code_light}
use Rattle.pixel.specs.Conversion.{mapped, code}
use Rattle.exact.specs.ExactValue.{Given, of_codes, Signal}

-- 64 + 876g lies less than n codes from d
pub record LessThan (n d : ℕ) (g : Fraction) : Type 0 where
  pub above : d * g.den < 64 * g.den + 876 * g.num + n * g.den
  pub below : 64 * g.den + 876 * g.num < d * g.den + n * g.den

-- it lies at most n/k of a code from d
pub record AtMost (n k d : ℕ) (g : Fraction) : Type 0 where
  pub above : k * (d * g.den) ≤ k * (64 * g.den + 876 * g.num) + n * g.den
  pub below : k * (64 * g.den + 876 * g.num) ≤ k * (d * g.den) + n * g.den

-- the HLG signal of a component has a lower and an upper fraction, both inside a bound
pub record Enclosed (G : Given) (peak : ℕ) (i : Component) (Inside : Fraction → Type 0) : Type 0 where
  pub fraction : Side → Fraction
  pub signals : (s : Side) → Signal G s peak i (fraction s)
  pub inside : (s : Side) → Inside (fraction s)

-- the brightest code lies a whole code or more under the knee: 2m + 2,048 ≤ 3t − w. Where the curve cuts m at w, it fails with either m
abbrev pub BelowKnee : Source → Pixel → Type 0
BelowKnee source p = 2 * code_position source.format (brightest p) + 2048 + position_of (source.peak * units) ≤ 3 * position_of thousand

-- how near a code lies where the curve does not bend, or not yet (request 06), and how near it lies anywhere (of narrow range request 10)
abbrev pub Unbent : Range → ℕ → Fraction → Type 0
Unbent Narrow = AtMost 9 16
Unbent Full = LessThan 2

abbrev pub Anywhere : Range → ℕ → Fraction → Type 0
Anywhere Narrow = LessThan 1
Anywhere Full = LessThan 4

-- and what holds throughout, bent or not: both follow from it
abbrev pub Throughout : Range → ℕ → Fraction → Type 0
Throughout Narrow = AtMost 9 16
Throughout Full = AtMost 3 2

-- demand 3 of one source and one pixel
pub record Voted (source : Source) (p : Pixel) : Type 0 where
  -- each code is less than one code away from its exact value, of full-range codes less than four
  pub near : (i : Component) → Enclosed (of_codes source.format p) source.peak i (Anywhere source.format.range (code source p i))
  -- and at most 9/16 of a code where the curve does not bend, or not yet; of full-range codes less than two
  pub nearer : (source.peak ≤ 1000) ⊎ BelowKnee source p
      → (i : Component) → Enclosed (of_codes source.format p) source.peak i (Unbent source.format.range (code source p i))
  -- and throughout at most 9/16 of a code, of full-range codes at most one and a half
  pub throughout : (i : Component) → Enclosed (of_codes source.format p) source.peak i (Throughout source.format.range (code source p i))
  -- no mapped component exceeds 1,000 cd/m2
  pub capped : (i : Component) → mapped source p i ≤ thousand
  -- a component light at least as large as another gives a mapped component and a code at least as large
  pub ordered : (i j : Component) → code_light source.format (p i) ≤ code_light source.format (p j)
      → (mapped source p i ≤ mapped source p j) × (code source p i ≤ code source p j)
  -- of two greys of one source, the larger PQ code gives HLG codes at least as large
  pub greys : (c d : ℕ) → least_taken source.format ≤ c → c ≤ d → d ≤ most_taken source.format
      → (i j : Component) → code source (λ k. c) i ≤ code source (λ k. d) j

-- for every peak from 1 to 10,000, every depth and range, and every pixel of codes that are taken
unfoldable pub Demand : Type 0
Demand = (source : Source) → 1 ≤ source.peak → source.peak ≤ 10000 → (p : Pixel)
    → ((i : Component) → (least_taken source.format ≤ p i) × (p i ≤ most_taken source.format)) → Voted source p
