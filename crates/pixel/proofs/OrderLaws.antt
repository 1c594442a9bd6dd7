-- Order among the components of a pixel, and among greys under one peak: over lights and a position, then of codes.
use mathlib.Core.Path.{◌≡◌, refl, ◌∙◌, ap}
use Prim.Native.Nat.{ℕ, ◌≤◌, ◌<◌}
use native.Mathlib.Nat.{mul-le-mul_right, mul-div_cancel_left}
use native.Mathlib.Decide.{dec_le}
use native.Mathlib.Omega.{arith}
use Rattle.laws.proofs.DivisionLaws.{floor_grows}
use Rattle.quantity.specs.declared.sample_format.SampleFormat.{SampleFormat}
use Rattle.quantity.specs.declared.Source.{Source}
use Rattle.quantity.specs.Component.{Component, Pixel, brightest}
use Rattle.position.specs.Position.{light_at}
use Rattle.position.specs.Code.{code_position, code_light}
use Rattle.position.proofs.LightLaws.{light_grows}
use Rattle.position.proofs.CodeLaws.{code_light_at, code_position_grows}
use Rattle.eetf.specs.Curve.{bent_light, mapped_light}
use Rattle.eetf.proofs.CurveLaws.{bent_grows}
use Rattle.hlg.proofs.CodeLaws.{code_grows, grey_grows}
use Rattle.pixel.specs.Conversion.{bent_of, mapped_of, code_of, lights, brightest_position, mapped, code}
use Rattle.pixel.proofs.PixelLaws.{mapped_by, mapped_of_none, bent_of_light}

-- a component light at least as large as another gives a mapped component and a code at least as large
module _ (peak : ℕ) (x : Pixel) (m : ℕ) (i j : Component) (h : x i ≤ x j) where
  mapped_grows : mapped_of peak x m i ≤ mapped_of peak x m j
  unfolding mapped_of mapped_light
  mapped_grows = floor_grows _ _ (brightest x) (mul-le-mul_right (bent_of peak x m) h)

  pub ordered_of : (mapped_of peak x m i ≤ mapped_of peak x m j) × (code_of peak x m i ≤ code_of peak x m j)
  unfolding code_of
  ordered_of = (mapped_grows, code_grows _ (mapped_of peak x m i) (mapped_of peak x m j) mapped_grows)

pub ordered : (source : Source) (p : Pixel) (i j : Component) → code_light source.format (p i) ≤ code_light source.format (p j)
    → (mapped source p i ≤ mapped source p j) × (code source p i ≤ code source p j)
unfolding code
ordered source p = ordered_of source.peak (lights source.format p) (brightest_position source.format p)

-- ---- every component of a grey is what its light is bent to, where that is the light at its position
abbrev grey : ℕ → Pixel
grey l k = l

grey_bent : (peak l m : ℕ) (i : Component) → l ≡ light_at m → 0 < l → mapped_of peak (grey l) m i ≡ bent_light peak (light_at m) m
grey_bent peak l m i e h = mapped_by peak (grey l) m i refl (omega arith) (bent_of_light peak (grey l) m (omega arith)) ∙ mul-div_cancel_left _ h

module _ (peak : ℕ) {l m k n : ℕ} (e : l ≡ light_at m) (f : k ≡ light_at n) (h : m ≤ n) where
  grey_grown : (i : Component) → mapped_of peak (grey l) m i ≤ mapped_of peak (grey k) n i
  grey_grown i = go (dec_le 1 l)
    where
      go : Dec (1 ≤ l) → mapped_of peak (grey l) m i ≤ mapped_of peak (grey k) n i
      go (yes g) =
          let more : 0 < k = omega (arith, light_grows m n h) in
          omega (arith, grey_bent peak l m i e g, grey_bent peak k n i f more, bent_grows peak m n h)
      go (no g) = omega (arith, mapped_of_none peak (grey l) m (omega arith) i)

  pub greys_of : (i j : Component) → code_of peak (λ c. l) m i ≤ code_of peak (λ c. k) n j
  unfolding code_of mapped_of
  greys_of i j = grey_grows (mapped_of peak (grey l) m i) (mapped_of peak (grey k) n i) (grey_grown i)

pub greys : (source : Source) (c d : ℕ) → c ≤ d → (i j : Component) → code source (λ k. c) i ≤ code source (λ k. d) j
unfolding code brightest_position
greys source c d h = greys_of source.peak (at c) (at d) (code_position_grows f (brightest (grey c)) (brightest (grey d)) (omega arith))
  where
    f : SampleFormat
    f = source.format

    at : (c : ℕ) → code_light f c ≡ light_at (code_position f (brightest (grey c)))
    at c = code_light_at f c ∙ ap (λ D. light_at (code_position f D)) (omega arith)
