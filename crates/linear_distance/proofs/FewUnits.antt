-- Lights that the curve leaves, the brightest fewer units: they reach no step, so each code is 64, and their scene light stays below half a code. The
-- lights themselves enclose, on both sides.
use mathlib.Core.Path.{◌≡◌, ap, subst, sym}
use Prim.Native.Nat.{ℕ, ◌+◌, ◌-◌, ◌*◌, ◌^◌, ◌≤◌, ◌<◌}
use native.Mathlib.Nat.{le_trans, mul-le-mul_left, mul-le-mul_right, pow-le-pow_left, pow-suc}
use native.Mathlib.Omega.{arith}
use lib.Dec.{lit<, lit≤}
use Rattle.laws.specs.Fraction.{over}
use Rattle.laws.specs.Side.{Side, low, high, other}
use Rattle.laws.proofs.SideLaws.{at_refl}
use Rattle.laws.proofs.PowerLaws.{of_product}
use Rattle.quantity.specs.Component.{Component, Pixel, brightest, weighted}
use Rattle.quantity.proofs.ComponentLaws.{each_le}
use Rattle.position.specs.Position.{position_of}
use Rattle.hlg_steps.specs.Exponential.{sum_num, sum_den}
use Rattle.hlg_steps.specs.Signal.{inner_num, inner_den, above_c, below_c, slope, HlgSignal}
use Rattle.hlg_steps.specs.Steps.{scene}
use Rattle.hlg_steps.specs.StepTable.{step_table, step}
use Rattle.hlg_steps.proofs.SignalTests.{signal_test_lem}
use Rattle.hlg.proofs.CancelledLaws.{C, K, code_is}
use Rattle.pixel.specs.Conversion.{mapped_of, code_of}
use Rattle.exact.specs.ExactValue.{of_lights}
use Rattle.distance.specs.Demand.{AtMost, Enclosed}
use Rattle.distance.proofs.SceneBounds.{Scaled}
use Rattle.distance.proofs.NearLaws.{part_le}
use Rattle.distance.proofs.StepTests.{sixteenths}
use Rattle.distance.proofs.CodeDistance.{Endpoint, code_below, none, none_below}
use Rattle.distance.proofs.PixelDistance.{Results, by_ends}
use Rattle.linear_distance.proofs.FoundNumbers.{lit_units, dim_scene}
use Rattle.linear_distance.proofs.WholeLights.{wholes, whole_above, most_itself}
use Rattle.linear_distance.proofs.UnbentLight.{Left, bent_itself, left_mapped}

-- a unit less than that of blue alone does not reach the step of code 65, and so much has no more than this scene light, which is 8/16 of a code at most
short : C * (lit_units - 1) ^ 5 < step 65 ^ 6 * K * 593
unfolding C K step step_table
short = lit< tt

dim_scene_lem : C * lit_units ^ 5 ≤ dim_scene ^ 6 * K * 593
unfolding C K
dim_scene_lem = lit≤ tt

dim_signal : HlgSignal high (scene dim_scene) (sixteenths 8)
unfolding sum_num sum_den inner_num inner_den above_c below_c slope
dim_signal = signal_test_lem high (scene dim_scene) (sixteenths 8) tt

-- the sixth and fifth powers are given as numbers: v6 is v ^ 6, and so on; v / z is at most u, e its scene light, y the weight of three such lights
raise : (c k e6 u z v5 v6 z5 z6 v y : ℕ) → c * u ≤ e6 * k * 593 → v5 ≤ u * z5 → v6 ≡ v5 * v → z6 ≡ z5 * z → 593 * v ≤ y → c * v6 * z ≤ e6 * k * y * z6
raise c k e6 u z v5 v6 z5 z6 v y a b e f g = le_trans one (le_trans two three)
  where
    one : c * v6 * z ≤ c * (u * z5) * v * z
    one = omega (arith, ap (λ t. c * z * t) e, mul-le-mul_left (c * v * z) b)

    two : c * (u * z5) * v * z ≤ e6 * k * 593 * (z5 * v * z)
    two = omega (arith, mul-le-mul_right (z5 * v * z) a)

    three : e6 * k * 593 * (z5 * v * z) ≤ e6 * k * y * z6
    three = omega (arith, mul-le-mul_left (e6 * k * z5 * z) g, ap (λ t. e6 * k * y * t) f)

scene_most : (v z y : ℕ) → v ≤ lit_units * z → 593 * v ≤ y → Scaled high dim_scene v z y z
scene_most v z y h g =
    raise C K (dim_scene ^ 6) (lit_units ^ 5) z (v ^ 5) (v ^ 6) (z ^ 5) (z ^ 6) v y dim_scene_lem
    (subst (λ t. v ^ 5 ≤ t) (of_product lit_units z 5) (pow-le-pow_left h 5)) (pow-suc v 5) (pow-suc z 5) g

module _ (peak : ℕ) (most : peak ≤ 10000) (v : Pixel) (z : ℕ) (pos : 0 < z) (c : Left peak (brightest (wholes v z)))
    (seen : 0 < brightest v) where
  abbrev x : Pixel
  x = wholes v z

  exact_results : Results (of_lights v z pos) peak (λ s. v) (λ s. z)
  exact_results =
      record {
        seen = seen;
        pos = λ s. pos;
        results = λ s i. record {
          own = over (v i) z pos;
          own_light = at_refl s _;
          bent = over (brightest v) z pos;
          bent_light = bent_itself peak most v z pos c s;
          most = over (brightest v) z pos;
          most_light = most_itself v z pos (other s);
          some = seen;
          bounds = at_refl s _;
        };
      }

  module _ (few : brightest x < lit_units) where
    little : (i : Component) → v i ≤ lit_units * z
    little i = let next : brightest x + 1 ≤ lit_units = omega arith in omega (arith, whole_above v z pos, each_le v i, mul-le-mul_right z next)

    code_black : (i : Component) → code_of peak x (position_of (brightest x)) i ≡ 64
    unfolding code_of
    code_black i =
        let r = mapped_of peak x (position_of (brightest x)) in
        let small : r i ≤ lit_units - 1 = omega (arith, left_mapped peak most v z pos c i, each_le x i) in
        let code = code_is (weighted r) (r i) in
        omega (arith, code.low, code_below 65 (lit≤ tt) (part_le r i) small short code)

    pub few_units : (i : Component) → Enclosed (of_lights v z pos) peak i (AtMost 9 16 (code_of peak x (position_of (brightest x)) i))
    unfolding none
    few_units i = subst (λ d. Enclosed (of_lights v z pos) peak i (AtMost 9 16 d)) (sym (code_black i)) (by_ends exact_results ends)
      where
        ends : (s : Side) → Endpoint s (λ e. Scaled s e (v i) z (weighted v) z) (AtMost 9 16 64)
        ends low = none_below (omega arith) (omega arith)
        ends high =
            record {
              e = dim_scene;
              fits = scene_most (v i) z (weighted v) (little i) (part_le v i);
              g = sixteenths 8;
              signal = dim_signal;
              inside = omega arith;
            }
