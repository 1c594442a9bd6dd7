-- The computed test of one grey with its hints, what a passed test shows, and the one pass over the greys.
use mathlib.Core.Path.{◌≡◌, refl}
use mathlib.Core.Logic.{◌⊎◌, inl, inr}
use mathlib.Core.Bool.{Bool, true, false, not, ◌||◌, ◌&&◌}
use Prim.Native.Nat.{ℕ, ◌+◌, ◌-◌}
use lib.Dec.{T, leb, ltb, eqb, leb→le, ltb→lt, eqb→eq}
use lib.Ieee.Fits.{and_l, and_r}
use lib.ListN.{get_or}
use Rattle.laws.proofs.ComputedTests.{every}
use Rattle.quantity.specs.Units.{units, thousand}
use Rattle.pq.specs.LightTable.{light_table, light_entry}
use Rattle.hlg_steps.specs.StepTable.{step_table, step}
use Rattle.hlg.specs.Code.{luminance, reaches, hlg_code}
use Rattle.inverse_oetf.specs.SceneTable.{scene_table, scene_light}
use Rattle.ootf.specs.Light.{display_light}
use Rattle.inverse_eotf.specs.Code.{pq_code}
use Rattle.return_pixel.specs.Conversion.{scene_luminance}
use Rattle.return_pixel.proofs.BetweenLaws as sent
use Rattle.round_trip.proofs.GreyHints.{sent_codes, returned_codes}
use Rattle.round_trip.proofs.GreyLaws.{grey_light, code_between}

-- ---- the HLG code
abbrev between : ℕ → ℕ → ℕ → Bool
between Y R e = leb 64 e && (ltb e 1019 && ((eqb e 64 || reaches (step e) Y R) && not (reaches (step (e + 1)) Y R)))

passes : (e : ℕ) (b : Bool) → T (eqb e 64 || b) → (e ≡ 64) ⊎ (b ≡ true)
passes e b t = go (eqb e 64) b (eqb→eq e 64) t
  where
    go : (a b : Bool) → (T a → e ≡ 64) → T (a || b) → (e ≡ 64) ⊎ (b ≡ true)
    go true b f t = inl (f tt)
    go false true f t = inr refl
    go false false f t = absurd t

fails : (b : Bool) → T (not b) → b ≡ false
fails true t = absurd t
fails false t = refl

between→ : (Y R e : ℕ) → T (between Y R e) → e ≡ hlg_code Y R
between→ Y R e t =
    let from = leb 64 e in
    let to = ltb e 1019 in
    let reached = eqb e 64 || reaches (step e) Y R in
    let missed = not (reaches (step (e + 1)) Y R) in
    let inside = and_r from (to && (reached && missed)) t in
    let sides = and_r to (reached && missed) inside in
    code_between Y R e (leb→le 64 e (and_l from (to && (reached && missed)) t)) (ltb→lt e 1019 (and_l to (reached && missed) inside))
    (passes e (reaches (step e) Y R) (and_l reached missed sides)) (fails (reaches (step (e + 1)) Y R) (and_r reached missed sides))

-- ---- a grey d: its PQ code is D, and the HLG code of that is e
pub record Trip (d D e : ℕ) : Type 0 where
  pub to_pq : D ≡ pq_code (display_light (scene_luminance (λ k. d)) (scene_light d))
  pub to_hlg : e ≡ hlg_code (luminance (grey_light D) (grey_light D) (grey_light D)) (grey_light D)

abbrev pub trip_test : ℕ → ℕ → ℕ → Bool
trip_test d D e =
    sent.between (scene_luminance (λ k. d)) (scene_light d) D && between (luminance (grey_light D) (grey_light D) (grey_light D)) (grey_light D) e

pub trip_test_lem : (d D e : ℕ) → T (trip_test d D e) → Trip d D e
trip_test_lem d D e t =
    let there = sent.between (scene_luminance (λ k. d)) (scene_light d) D in
    let back = between (luminance (grey_light D) (grey_light D) (grey_light D)) (grey_light D) e in
    record {
      to_pq = sent.between→ (scene_luminance (λ k. d)) (scene_light d) D (and_l there back t);
      to_hlg = between→ (luminance (grey_light D) (grey_light D) (grey_light D)) (grey_light D) e (and_r there back t);
    }

-- ---- the pass
abbrev pub sent_code : ℕ → ℕ
sent_code d = get_or sent_codes (d - 64) 0

abbrev pub hinted_test : ℕ → ℕ → Bool
hinted_test d e = trip_test d (sent_code d) e

pub greys_pass : T (every hinted_test 64 returned_codes)
unfolding units thousand light_table light_entry step_table step reaches scene_table scene_light sent_codes returned_codes
greys_pass = tt
