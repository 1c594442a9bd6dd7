-- A peak up to 1,000 and a light of 1,000 cd/m2 or more: the bent light is 1,000 cd/m2, and each HLG code lies at most 9/16 of a code from its exact value.
use mathlib.Core.Path.{◌∙◌, subst}
use mathlib.Core.Logic.{inl}
use Prim.Native.Nat.{ℕ, ◌≤◌, ◌<◌}
use native.Mathlib.Nat.{le_refl, mul-le-mul_right}
use native.Mathlib.Omega.{arith}
use lib.Dec.{lit<}
use Rattle.laws.specs.Fraction.{whole}
use Rattle.laws.specs.Side.{Side, low, high}
use Rattle.quantity.specs.Units.{thousand}
use Rattle.quantity.specs.Component.{Component, Pixel, brightest}
use Rattle.position.specs.Position.{position_of}
use Rattle.eetf.proofs.CurveLaws.{unbent}
use Rattle.pixel.specs.Conversion.{bent_of, mapped_of, code_of}
use Rattle.pixel.proofs.PixelLaws.{Mapped, ratio_kept}
use Rattle.exact.specs.ExactValue.{of_lights, BentLight}
use Rattle.distance.specs.Demand.{AtMost, Enclosed}
use Rattle.distance.proofs.FoundNumbers.{ratio_under, ratio_over}
use Rattle.distance.proofs.NearLaws.{BentWithin}
use Rattle.distance.proofs.CodeDistance.{by_ratio}
use Rattle.distance.proofs.PixelDistance.{bounded}
use Rattle.distance.proofs.BentLightLaws.{thousand_ge}
use Rattle.linear_distance.proofs.WholeLights.{wholes, whole_units, whole_below, own_whole, most_whole}

module _ (peak : ℕ) (dark : peak ≤ 1000) (v : Pixel) (z : ℕ) (pos : 0 < z) (bright : thousand ≤ brightest (wholes v z)) where
  abbrev x : Pixel
  x = wholes v z

  abbrev M : ℕ
  M = brightest (wholes v z)

  seen : 0 < brightest v
  seen = let some : 1 ≤ M = omega (arith, thousand_ge) in omega (arith, whole_below v z pos, mul-le-mul_right z some, pos)

  cut : (s : Side) → BentLight (of_lights v z pos) s peak (whole thousand)
  unfolding BentLight
  cut low = inl (dark, (le_refl _, omega (arith, whole_below v z pos, mul-le-mul_right z bright)))
  cut high = inl (dark, inl (le_refl _))

  maps : Mapped M thousand x (mapped_of peak x (position_of M))
  unfolding bent_of
  maps =
      subst (λ n. Mapped M n x (mapped_of peak x (position_of M))) (unbent peak M (position_of M) dark ∙ omega arith)
      (ratio_kept peak x (position_of M) (omega (arith, thousand_ge)))

  close : BentWithin whole_units ratio_under ratio_over M thousand (λ s. thousand)
  close = record { lower = omega arith; upper = omega arith; bent = bright; seen = omega (arith, thousand_ge) }

  pub cut_lights : (i : Component) → Enclosed (of_lights v z pos) peak i (AtMost 9 16 (code_of peak x (position_of M) i))
  unfolding code_of
  cut_lights = bounded whole_units seen (own_whole v z pos) (most_whole v z pos) cut close maps (le_refl thousand) (lit< tt) (lit< tt) by_ratio
