-- Laws of a converted pixel: over its lights and a position, then of codes; in a black pixel too.
use mathlib.Core.Path.{◌≡◌, refl, ◌∙◌, sym, ap, subst}
use Prim.Native.Nat.{ℕ, ◌+◌, ◌*◌, ◌/◌, ◌≤◌, ◌<◌}
use native.Mathlib.Nat.{le_trans, zero-div, zero-mul}
use native.Mathlib.Omega.{arith}
use Rattle.laws.proofs.DivisionLaws.{floor_le, lt_floor}
use Rattle.quantity.specs.Units.{thousand, ten_thousand, last_position}
use Rattle.quantity.specs.declared.sample_format.SampleFormat.{SampleFormat}
use Rattle.quantity.specs.declared.Source.{Source}
use Rattle.quantity.specs.Component.{Component, Pixel, brightest}
use Rattle.quantity.proofs.ComponentLaws.{brightest_at, each_le, brightest_of}
use Rattle.position.specs.Position.{light_at, position_of}
use Rattle.position.specs.Code.{code_position, code_light}
use Rattle.position.proofs.LightLaws.{light_at_most}
use Rattle.position.proofs.CodeLaws.{position_range, code_light_at, code_light_grows}
use Rattle.eetf.specs.Curve.{bent_light, mapped_light}
use Rattle.eetf.proofs.CurveLaws.{bent_le_thousand}
use Rattle.eetf.proofs.BetweenLaws.{bent_any_le_thousand}
use Rattle.eetf.proofs.MappingLaws.{ratio_le}
use Rattle.hlg.specs.Code.{hlg_code}
use Rattle.hlg.proofs.CodeLaws.{code_black}
use Rattle.pixel.specs.Conversion.{bent_of, mapped_of, lights, brightest_light, brightest_position, bent, mapped, code}

-- ---- lights x mapped to r: each keeps its ratio to the brightest, m, which becomes n; rounded down
pub record Floor (c n m r : ℕ) : Type 0 where
  pub below : r * m ≤ c * n
  pub above : c * n < (r + 1) * m

pub record Mapped (m n : ℕ) (x r : Pixel) : Type 0 where
  pub inside : (i : Component) → x i ≤ m
  pub brightest : (i : Component) × (x i ≡ m)
  pub floors : (i : Component) → Floor (x i) n m (r i)

module _ (peak : ℕ) (x : Pixel) (m : ℕ) where
  pub ratio_kept : 0 < brightest x → Mapped (brightest x) (bent_of peak x m) x (mapped_of peak x m)
  unfolding mapped_of mapped_light
  ratio_kept h =
      record {
        inside = each_le x;
        brightest = brightest_at x;
        floors = λ i. record { below = floor_le (x i * bent_of peak x m) (brightest x); above = lt_floor (x i * bent_of peak x m) (brightest x) h };
      }

  pub mapped_le_bent : (i : Component) → mapped_of peak x m i ≤ bent_of peak x m
  unfolding mapped_of mapped_light
  mapped_le_bent i = ratio_le (x i) (brightest x) (bent_of peak x m) (each_le x i)

  pub mapped_by : (i : Component) {c M n : ℕ} → x i ≡ c → brightest x ≡ M → bent_of peak x m ≡ n → mapped_of peak x m i ≡ c * n / M
  unfolding mapped_of mapped_light
  mapped_by i e f g = rw (e, f, g)

  pub mapped_of_none : brightest x ≡ 0 → (i : Component) → mapped_of peak x m i ≡ 0
  mapped_of_none h i = mapped_by i {c = 0} (omega (arith, each_le x i)) refl refl ∙ rw (zero-mul (bent_of peak x m)) (zero-div (brightest x))

  -- where the brightest light is that at m
  pub bent_of_light : brightest x ≡ light_at m → bent_of peak x m ≡ bent_light peak (light_at m) m
  unfolding bent_of
  bent_of_light e = ap (λ l. bent_light peak l m) e

  pub light_ratio_kept : brightest x ≡ light_at m → 0 < light_at m → Mapped (light_at m) (bent_light peak (light_at m) m) x (mapped_of peak x m)
  light_ratio_kept e h =
      subst (λ M. Mapped M (bent_light peak (light_at m) m) x (mapped_of peak x m)) e
      (subst (λ n. Mapped (brightest x) n x (mapped_of peak x m)) (bent_of_light e) (ratio_kept (omega (arith, e, h))))

-- at the position of the brightest light none exceeds 1,000 cd/m2
pub lights_mapped_at_most : (peak : ℕ) (x : Pixel) (i : Component) → mapped_of peak x (position_of (brightest x)) i ≤ thousand
unfolding bent_of
lights_mapped_at_most peak x i = le_trans (mapped_le_bent peak x (position_of (brightest x)) i) (bent_any_le_thousand peak (brightest x))

-- ---- codes: the brightest light is that of the brightest code
pub light_of_brightest : (f : SampleFormat) (p : Pixel) → brightest_light f p ≡ code_light f (brightest p)
unfolding brightest_light
light_of_brightest f = brightest_of (code_light f) (code_light_grows f)

pub brightest_lit : (f : SampleFormat) (p : Pixel) → brightest (lights f p) ≡ light_at (brightest_position f p)
unfolding brightest_position brightest_light
brightest_lit f p = omega (arith, light_of_brightest f p, code_light_at f (brightest p))

pub mapped_dark : (source : Source) (p : Pixel) → brightest_light source.format p ≡ 0 → (i : Component) → mapped source p i ≡ 0
unfolding mapped
mapped_dark source p = mapped_of_none source.peak (lights source.format p) (brightest_position source.format p)

pub code_dark : (source : Source) (p : Pixel) → brightest_light source.format p ≡ 0 → (i : Component) → code source p i ≡ 64
unfolding code
code_dark source p h i = ap (hlg_code _) (mapped_dark source p h i) ∙ code_black _

-- the ranges of lights, positions and codes
pub component_le : (f : SampleFormat) (p : Pixel) (i : Component) → code_light f (p i) ≤ brightest_light f p
unfolding brightest_light
component_le f p i = each_le (lights f p) i

pub brightest_light_at_most : (f : SampleFormat) (p : Pixel) → brightest_light f p ≤ ten_thousand
brightest_light_at_most f p =
    omega (arith, light_of_brightest f p, code_light_at f (brightest p), light_at_most (code_position f (brightest p)))

pub brightest_position_range : (f : SampleFormat) (p : Pixel) → brightest_position f p ≤ last_position
unfolding brightest_position
brightest_position_range f p = position_range f (brightest p)

pub bent_at_most : (source : Source) (p : Pixel) → bent source p ≤ thousand
unfolding bent
bent_at_most source p =
    let f = source.format in
    let m = brightest_position f p in
    subst (λ n. n ≤ thousand) (sym (bent_of_light source.peak (lights f p) m (brightest_lit f p))) (bent_le_thousand source.peak m)

pub mapped_at_most : (source : Source) (p : Pixel) (i : Component) → mapped source p i ≤ thousand
unfolding mapped
mapped_at_most source p i =
    le_trans (mapped_le_bent source.peak (lights source.format p) (brightest_position source.format p) i) (bent_at_most source p)
