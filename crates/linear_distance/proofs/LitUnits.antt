-- Lights that the curve leaves, the brightest some units or more: each result is its own light, which lies from its whole part to the next unit. So each
-- HLG code lies at most 9/16 of a code from its exact value.
use mathlib.Core.Path.{◌≡◌, subst, sym}
use Prim.Native.Nat.{ℕ, ◌≤◌, ◌<◌}
use native.Mathlib.Nat.{zero-lt-suc}
use native.Mathlib.Omega.{arith}
use lib.Dec.{lit<}
use Rattle.laws.specs.Fraction.{over}
use Rattle.laws.specs.Side.{other}
use Rattle.laws.proofs.SideLaws.{at_refl}
use Rattle.quantity.specs.Units.{thousand}
use Rattle.quantity.specs.Component.{Component, red, green, blue, Pixel, brightest, weighted}
use Rattle.quantity.proofs.ComponentLaws.{brightest_at, each_le}
use Rattle.position.specs.Position.{position_of}
use Rattle.hlg.specs.Code.{hlg_code}
use Rattle.pixel.specs.Conversion.{code_of}
use Rattle.exact.specs.ExactValue.{of_lights}
use Rattle.distance.specs.Demand.{AtMost, Enclosed}
use Rattle.distance.proofs.FoundNumbers.{ratio_under, ratio_over}
use Rattle.distance.proofs.NearLaws.{Near, end, around, part_le}
use Rattle.distance.proofs.CodeDistance.{by_ratio}
use Rattle.distance.proofs.PixelDistance.{Results, within}
use Rattle.linear_distance.proofs.FoundNumbers.{lit_units, lit_units_luminance}
use Rattle.linear_distance.proofs.WholeLights.{wholes, whole_units, own_whole, most_itself}
use Rattle.linear_distance.proofs.LinearTests.{unit_room}
use Rattle.linear_distance.proofs.UnbentLight.{Left, left_below, bent_itself, left_mapped}

-- a unit more is near a light; the ratio is not needed
near : (x : Pixel) (i : Component) → Near 1 0 0 10000 ratio_under ratio_over (λ s j. end whole_units s (x j)) (λ s. 1) x i
near x i =
    record {
      result_high = omega arith;
      luminance_low = omega arith;
      result_low = omega arith;
      luminance_high = omega arith;
      part = part_le x i;
    }

module _ (peak : ℕ) (most : peak ≤ 10000) (v : Pixel) (z : ℕ) (pos : 0 < z) (c : Left peak (brightest (wholes v z)))
    (seen : 0 < brightest v) where
  abbrev x : Pixel
  x = wholes v z

  own_results : Results (of_lights v z pos) peak (λ s j. end whole_units s (x j)) (λ s. 1)
  own_results =
      record {
        seen = seen;
        pos = λ s. zero-lt-suc 0;
        results = λ s i. record {
          own = around whole_units s (x i);
          own_light = own_whole v z pos s i;
          bent = over (brightest v) z pos;
          bent_light = bent_itself peak most v z pos c s;
          most = over (brightest v) z pos;
          most_light = most_itself v z pos (other s);
          some = seen;
          bounds = at_refl s _;
        };
      }

  code_of_wholes : (i : Component) → code_of peak x (position_of (brightest x)) i ≡ hlg_code (weighted x) (x i)
  unfolding code_of
  code_of_wholes i =
      let same = left_mapped peak most v z pos c in
      rw (same red, same green, same blue, same i)

  pub lit_units_lem : lit_units ≤ brightest x → (i : Component)
      → Enclosed (of_lights v z pos) peak i (AtMost 9 16 (code_of peak x (position_of (brightest x)) i))
  lit_units_lem lit i =
      let top = brightest_at x in
      let enough : lit_units_luminance ≤ weighted x = omega (arith, part_le x top.0, top.1) in
      let below : x i ≤ thousand = omega (arith, each_le x i, left_below peak most (brightest x) c) in
      subst (λ d. Enclosed (of_lights v z pos) peak i (AtMost 9 16 d)) (sym (code_of_wholes i))
      (within own_results unit_room (near x i) enough (lit< tt) (lit< tt) below by_ratio)
