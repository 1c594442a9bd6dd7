-- Lights that are given themselves, v / z units up to 10,000 cd/m2, of which the engine takes the whole parts and the position of the brightest: how near
-- each HLG code lies to its exact value (request 11).
use mathlib.Core.Path.{◌≡◌, ◌∙◌, ap, subst, sym}
use mathlib.Core.Logic.{◌⊎◌, inl, inr}
use Prim.Native.Nat.{ℕ, ◌+◌, ◌*◌, ◌/◌, ◌≤◌, ◌<◌}
use native.Mathlib.Nat.{lt_of_not-le, zero-div}
use native.Mathlib.Decide.{dec_le}
use native.Mathlib.Omega.{arith}
use Rattle.laws.specs.Fraction.{Fraction}
use Rattle.quantity.specs.Units.{units, thousand, ten_thousand}
use Rattle.quantity.specs.Component.{Component, Pixel, brightest}
use Rattle.position.specs.Position.{position_of}
use Rattle.position.proofs.PeakLaws.{thousand_position}
use Rattle.hlg.specs.Code.{hlg_code}
use Rattle.hlg.proofs.CodeLaws.{code_black}
use Rattle.pixel.specs.Conversion.{code_of}
use Rattle.pixel.proofs.PixelLaws.{mapped_of_none}
use Rattle.exact.specs.ExactValue.{of_lights}
use Rattle.distance.specs.Demand.{AtMost, Enclosed}
use Rattle.distance.proofs.CodeDistance.{none}
use Rattle.distance.proofs.PixelDistance.{wider, black}
use Rattle.linear_distance.proofs.FoundNumbers.{lit_units}
use Rattle.linear_distance.proofs.WholeLights.{wholes, brightest_whole}
use Rattle.linear_distance.proofs.UnbentLight.{BelowKnee, Left}
use Rattle.linear_distance.proofs.LitUnits.{lit_units_lem}
use Rattle.linear_distance.proofs.FewUnits.{few_units}
use Rattle.linear_distance.proofs.CutLights.{cut_lights}
use Rattle.linear_distance.proofs.BentLights.{bent_lights}

module _ (v : Pixel) (z : ℕ) (pos : 0 < z) (cap : brightest v ≤ ten_thousand * z) (peak : ℕ) (most : peak ≤ 10000) where
  abbrev x : Pixel
  x = wholes v z

  abbrev M : ℕ
  M = brightest (wholes v z)

  abbrev m : ℕ
  m = position_of (brightest (wholes v z))

  -- a pixel of which every light is 0 is black
  dark : brightest v ≡ 0 → (i : Component) → code_of peak x m i ≡ 64
  unfolding code_of
  dark e i =
      let zero : M ≡ 0 = brightest_whole v z pos ∙ ap (λ n. n / z) e ∙ zero-div z in
      ap (hlg_code _) (mapped_of_none peak x m zero i) ∙ code_black _

  -- under a peak up to 1,000 cd/m2, or a code or more below the knee, at most 9/16 of a code
  pub nearer : (peak ≤ 1000) ⊎ (2 * m + 2048 + position_of (peak * units) ≤ 3 * position_of thousand)
      → (i : Component) → Enclosed (of_lights v z pos) peak i (AtMost 9 16 (code_of peak x m i))
  unfolding none
  nearer c i = go (dec_le 1 (brightest v)) (dec_le peak 1000) (dec_le thousand M) c
    where
      left : 0 < brightest v → Left peak M → Dec (lit_units ≤ M) → Enclosed (of_lights v z pos) peak i (AtMost 9 16 (code_of peak x m i))
      left seen l (yes a) = lit_units_lem peak most v z pos l seen a i
      left seen l (no a) = few_units peak most v z pos l seen (omega arith) i

      go : Dec (1 ≤ brightest v) → Dec (peak ≤ 1000) → Dec (thousand ≤ M) → (peak ≤ 1000) ⊎ BelowKnee peak m
          → Enclosed (of_lights v z pos) peak i (AtMost 9 16 (code_of peak x m i))
      go (no a) b d e =
          let zero : brightest v ≡ 0 = omega arith in
          subst (λ d. Enclosed (of_lights v z pos) peak i (AtMost 9 16 d)) (sym (dark zero i)) (black zero (omega arith))
      go (yes a) (yes b) (yes d) e = cut_lights peak b v z pos d i
      go (yes a) (yes b) (no d) e = left a (inl (b, omega arith)) (dec_le lit_units M)
      go (yes a) (no b) d (inl e) = absurd (b e)
      go (yes a) (no b) d (inr e) = left a (inr (lt_of_not-le b, e)) (dec_le lit_units M)

  -- throughout, bent or not, at most one and a half codes
  pub throughout : (i : Component) → Enclosed (of_lights v z pos) peak i (AtMost 3 2 (code_of peak x m i))
  throughout i = go (dec_le peak 1000) (dec_le (2 * m + 2048 + position_of (peak * units)) (3 * position_of thousand))
    where
      less : (g : Fraction) → AtMost 9 16 (code_of peak x m i) g → AtMost 3 2 (code_of peak x m i) g
      less g h = omega (arith, h)

      go : Dec (peak ≤ 1000) → Dec (BelowKnee peak m) → Enclosed (of_lights v z pos) peak i (AtMost 3 2 (code_of peak x m i))
      go (yes a) b = wider less (nearer (inl a) i)
      go (no a) (yes b) = wider less (nearer (inr b) i)
      go (no a) (no b) = bent_lights peak (lt_of_not-le a) most v z pos cap (omega (arith, thousand_position)) i
