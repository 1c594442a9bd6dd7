-- Lights that are given themselves where the curve may bend them: points around the curve a cell off enclose the bent light within full range's ratio, so
-- each HLG code lies at most one and a half codes from its exact value.
use mathlib.Core.Path.{◌≡◌, ap, subst}
use Prim.Native.Nat.{ℕ, ◌+◌, ◌-◌, ◌*◌, ◌≤◌, ◌<◌}
use native.Mathlib.Nat.{mul-le-mul_right}
use native.Mathlib.Omega.{arith}
use lib.Dec.{lit<, lit≤}
use Rattle.laws.specs.Fraction.{whole}
use Rattle.laws.specs.Side.{Side, low, high}
use Rattle.quantity.specs.Units.{units, ten_thousand}
use Rattle.quantity.specs.Component.{Component, Pixel, brightest}
use Rattle.position.specs.Position.{light_at, position_of}
use Rattle.position.proofs.LightLaws.{light_grows, light_at_entry}
use Rattle.position.proofs.PeakLaws.{thousand_position}
use Rattle.bent_lights.proofs.PointLights.{point_before, point_after}
use Rattle.eetf.specs.Curve.{bent_light}
use Rattle.eetf.proofs.SplineLaws.{curve, curve_slope}
use Rattle.eetf.proofs.CurveLaws.{bent_position}
use Rattle.eetf.proofs.BetweenLaws.{Between, bent_between}
use Rattle.pixel.specs.Conversion.{bent_of, mapped_of, code_of}
use Rattle.pixel.proofs.PixelLaws.{Mapped, ratio_kept}
use Rattle.exact.specs.ExactValue.{of_lights, BentLight}
use Rattle.distance.specs.Demand.{AtMost, Enclosed}
use Rattle.distance.proofs.FoundNumbers.{least_light, positions_off, thousand_at, full_room_above, full_room_below, full_ratio_under, full_ratio_over}
use Rattle.distance.proofs.NearLaws.{BentWithin}
use Rattle.distance.proofs.CodeDistance.{between_all, in_less_room}
use Rattle.distance.proofs.PixelDistance.{bounded}
use Rattle.distance.proofs.FullRangeSteps.{full_ratios}
use Rattle.distance.proofs.BentLightLaws.{last, near, up, bent_by, point_low, point_high, second_entry}
use Rattle.linear_distance.proofs.FoundNumbers.{least_unleft, linear_reach}
use Rattle.linear_distance.proofs.WholeLights.{wholes, whole_units, whole_below, own_whole, most_whole}
use Rattle.linear_distance.proofs.LinearTests.{slow_light}
use Rattle.linear_distance.proofs.LinearCurve.{curve_at, curve_range, signal_low, signal_high, X_low, X_high}

module _ (peak : ℕ) (more : 1000 < peak) (most : peak ≤ 10000) (v : Pixel) (z : ℕ) (pos : 0 < z) (cap : brightest v ≤ ten_thousand * z)
    (knee : 3 * thousand_at < 2 * position_of (brightest (wholes v z)) + 2048 + position_of (peak * units)) where
  abbrev x : Pixel
  x = wholes v z

  abbrev M : ℕ
  M = brightest (wholes v z)

  abbrev m : ℕ
  m = position_of (brightest (wholes v z))

  abbrev at : ℕ → ℕ
  at q = curve_at peak more most q

  from : least_unleft ≤ m
  from = omega (arith, knee, last peak more most)

  -- ---- the bent light by points
  j : ℕ
  j = point_before (at (m - 256) - positions_off)

  k : ℕ
  k = point_after (at (m + 256) + positions_off)

  b : Side → ℕ
  b low = light_at j
  b high = light_at k

  lights : (s : Side) → BentLight (of_lights v z pos) s peak (whole (b s))
  unfolding b j k
  lights low =
      let r = curve_range peak more most (m - 256) (omega (arith, from)) in
      bent_by peak more most (of_lights v z pos) low (m - 256) (at (m - 256) - positions_off) (whole (light_at j)) (X_low v z pos cap from)
      (signal_low peak more most (m - 256) (omega (arith, from)))
      (point_low (at (m - 256) - positions_off) (whole (light_at j)) (omega (arith, r)) (omega (arith, r)) (record { cross = omega arith }))
  lights high =
      let r = curve_range peak more most (m + 256) (omega (arith, from)) in
      bent_by peak more most (of_lights v z pos) high (m + 256 + 1) (at (m + 256) + positions_off) (whole (light_at k)) (X_high v z pos cap from)
      (signal_high peak more most (m + 256))
      (point_high (at (m + 256) + positions_off) (whole (light_at k)) (omega (arith, r)) (omega (arith, r)) (record { cross = omega arith }))

  -- ---- within the ratio of what the engine maps the brightest light to
  abbrev n : ℕ
  n = bent_light peak M m

  between : Between peak M more
  between = bent_between peak M more

  here : bent_position peak m ≡ at m
  here = ap (λ t. curve t (position_of (peak * units)) m) thousand_position

  least : light_at (at m) ≤ n
  least = subst (λ s. light_at s ≤ n) here between.least

  greatest : n ≤ light_at (at m + 1)
  greatest = subst (λ s. n ≤ light_at (s + 1)) here between.greatest

  -- over a cell the curve rises by a cell at most
  rises : (q : ℕ) → at (q + 256) ≤ at q + 256
  rises q = curve_slope thousand_at (position_of (peak * units)) (up peak more most) (near peak more most) q 256

  lower : full_ratio_under * n ≤ full_ratio_over * light_at j
  unfolding j
  lower =
      let r = curve_range peak more most (m - 256) (omega (arith, from)) in
      let back : m - 256 + 256 ≡ m = omega (arith, from) in
      let steps = subst (λ q. at q ≤ at (m - 256) + 256) back (rises (m - 256)) in
      omega (arith, greatest, light_grows (at m + 1) (j + linear_reach) (omega (arith, steps, r)), slow_light j (omega (arith, r)) (omega (arith, r)))

  upper : full_ratio_under * light_at k ≤ full_ratio_over * (n + 1)
  unfolding k
  upper =
      let r = curve_range peak more most m (omega (arith, from)) in
      omega (arith, least, light_grows k (at m + linear_reach) (omega (arith, rises m)), slow_light (at m) (omega (arith, r)) (omega (arith, r)))

  seen : least_light ≤ n
  seen = omega (arith, least, light_grows (256 * 1) (at m) (omega (arith, curve_range peak more most m (omega (arith, from)))), light_at_entry 1, second_entry)

  close : BentWithin whole_units full_ratio_under full_ratio_over M n b
  unfolding b
  close = record { lower = omega (arith, lower); upper = omega (arith, upper); bent = between.self; seen = seen }

  -- ---- the codes
  some : 0 < M
  some = omega (arith, seen, between.self)

  maps : Mapped M n x (mapped_of peak x m)
  unfolding bent_of
  maps = ratio_kept peak x m some

  pub bent_lights : (i : Component) → Enclosed (of_lights v z pos) peak i (AtMost 3 2 (code_of peak x m i))
  unfolding code_of
  bent_lights =
      let level : 0 < brightest v = omega (arith, whole_below v z pos, mul-le-mul_right z some, pos) in
      bounded whole_units level (own_whole v z pos) (most_whole v z pos) lights close maps between.top (lit< tt) (lit< tt)
      (λ c low high. in_less_room full_ratio_under full_ratio_over (lit≤ tt) (lit≤ tt)
      (between_all full_ratio_under full_ratio_over full_room_above full_room_below full_ratios c low high))
