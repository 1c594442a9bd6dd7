-- A PQ grey under a peak of 1,000 cd/m2: every component keeps its light up to 1,000 cd/m2. And the HLG code by the two steps that enclose it. Light in units.
use mathlib.Core.Path.{◌≡◌, refl, sym, ◌∙◌, ap}
use mathlib.Core.Logic.{◌⊎◌}
use mathlib.Core.Bool.{true, false}
use Prim.Native.Nat.{ℕ, min, ◌+◌, ◌-◌, ◌*◌, ◌/◌, ◌≤◌, ◌<◌}
use native.Mathlib.Nat.{zero-div, mul-div_cancel_left}
use native.Mathlib.Decide.{dec_le}
use native.Mathlib.Omega.{arith}
use Rattle.laws.proofs.LargestLaws.{found_is}
use Rattle.quantity.specs.Units.{thousand}
use Rattle.quantity.specs.declared.sample_format.Depth.TheVariants.{Ten}
use Rattle.quantity.specs.declared.sample_format.Range.TheVariants.{Narrow}
use Rattle.quantity.specs.SampleFormat.{coded}
use Rattle.quantity.specs.Source.{graded_at}
use Rattle.quantity.specs.Component.{Component, red, green, blue, Pixel, brightest}
use Rattle.pq.specs.LightTable.{light_entry}
use Rattle.position.specs.Position.{light_at}
use Rattle.position.specs.Code.{above_black, code_light}
use Rattle.position.proofs.CodeLaws.{narrow_light}
use Rattle.eetf.proofs.CurveLaws.{unbent}
use Rattle.hlg_steps.specs.StepTable.{step}
use Rattle.hlg.specs.Code.{luminance, reaches, hlg_code}
use Rattle.hlg.proofs.CodeLaws.{code_falls}
use Rattle.pixel.specs.Conversion.{bent_of, mapped_of, code_of, brightest_position, code}
use Rattle.pixel.proofs.PixelLaws.{mapped_by}

abbrev grey : ℕ → Pixel
grey l k = l

-- ---- of a light l: M1 and M2 are l and its limit, so c × M2 / M1 is M2
unbent_grey : (l m : ℕ) → bent_of 1000 (grey l) m ≡ min l thousand
unfolding bent_of
unbent_grey l m =
    let top : brightest (grey l) ≡ l = omega arith in
    unbent 1000 (brightest (grey l)) m (omega arith) ∙ ap (λ x. min x thousand) top

own_part : (l n : ℕ) → l * min l n / l ≡ min l n
own_part l n = go (dec_le 1 l)
  where
    go : Dec (1 ≤ l) → l * min l n / l ≡ min l n
    go (yes h) = mul-div_cancel_left (min l n) h
    go (no h) =
        let none : l ≡ 0 = omega arith in
        let least : min l n ≡ 0 = omega arith in
        rw (least, none) (zero-div 0)

kept : (l m : ℕ) (i : Component) → mapped_of 1000 (grey l) m i ≡ min l thousand
kept l m i = mapped_by 1000 (grey l) m i refl (omega arith) (unbent_grey l m) ∙ own_part l thousand

kept_code : (l m : ℕ) (i : Component) → let r = min l thousand in code_of 1000 (grey l) m i ≡ hlg_code (luminance r r r) r
unfolding code_of
kept_code l m i = rw (kept l m red, kept l m green, kept l m blue, kept l m i)

-- ---- of a PQ code D: its light is P[4(D − 64)]
abbrev pub grey_light : ℕ → ℕ
grey_light D = min (light_entry (4 * (D - 64))) thousand

code_light_lem : (D : ℕ) → 64 ≤ D → D ≤ 940 → code_light (coded Ten Narrow) D ≡ light_entry (4 * (D - 64))
unfolding code_light light_at
code_light_lem D h k =
    let e : above_black (coded Ten Narrow) D ≡ D - 64 = omega arith in
    sym (narrow_light light_entry (coded Ten Narrow) D refl) ∙ ap (λ n. light_entry (4 * n)) e

pub grey_code : (D : ℕ) → 64 ≤ D → D ≤ 940 → (i : Component)
    → code (graded_at 1000) (grey D) i ≡ hlg_code (luminance (grey_light D) (grey_light D) (grey_light D)) (grey_light D)
unfolding code
grey_code D h k i =
    kept_code (code_light (coded Ten Narrow) D) (brightest_position (coded Ten Narrow) (grey D)) i
    ∙ ap (λ l. hlg_code (luminance (min l thousand) (min l thousand) (min l thousand)) (min l thousand)) (code_light_lem D h k)

-- ---- e is reached, or is that of black, and the next one is missed
pub code_between : (Y R e : ℕ) → 64 ≤ e → e < 1019 → (e ≡ 64) ⊎ (reaches (step e) Y R ≡ true) → reaches (step (e + 1)) Y R ≡ false → e ≡ hlg_code Y R
unfolding hlg_code
code_between Y R e from to passes missed =
    found_is (λ d. reaches (step d) Y R) 64 955 e
    (record { from = from; to = omega arith; passes = passes; last = λ k l m. (code_falls Y R).on (e + 1) k (omega arith) missed })
