-- Lights that are given themselves under a peak above 1,000, where the curve may bend them: X lies within a cell and a position of the engine's position
-- m, so the bent signal within a few positions of the curve a cell before m and a cell after it.
use mathlib.Core.Path.{subst}
use mathlib.Core.Logic.{inl}
use Prim.Native.Nat.{ℕ, min, ◌+◌, ◌-◌, ◌*◌, ◌≤◌, ◌<◌}
use native.Mathlib.Nat.{le_refl, lt_of_not-le}
use native.Mathlib.Decide.{dec_le}
use native.Mathlib.Omega.{arith}
use Rattle.laws.specs.Fraction.{over}
use Rattle.laws.specs.Side.{low, high}
use Rattle.quantity.specs.Units.{units, ten_thousand}
use Rattle.quantity.specs.Component.{Pixel, brightest}
use Rattle.pq.specs.Pq.{ValueAtMost, position_signal}
use Rattle.position.specs.Position.{position_of}
use Rattle.eetf.proofs.SplineLaws.{curve, curve_below, curve_le_self, curve_le_top}
use Rattle.exact.specs.ExactValue.{Value, of_lights, Ends, BentSignal}
use Rattle.distance.proofs.FoundNumbers.{positions_off, knee_halves, thousand_at}
use Rattle.distance.proofs.BentSignalLaws.{Around, bent_low, bent_high, bent_range}
use Rattle.distance.proofs.BentLightLaws.{far, last, near, up, ends, stand}
use Rattle.linear_distance.proofs.FoundNumbers.{least_unleft}
use Rattle.linear_distance.proofs.WholeLights.{wholes, whole_below, whole_above}
use Rattle.linear_distance.proofs.LinearSignal.{signal_from, signal_to}

module _ (peak : ℕ) (more : 1000 < peak) (most : peak ≤ 10000) where
  abbrev w : ℕ
  w = position_of (peak * units)

  abbrev e : Ends peak
  e = ends peak more most

  -- the curve's position
  abbrev pub curve_at : ℕ → ℕ
  curve_at q = curve thousand_at (position_of (peak * units)) q

  -- from a cell before the least that the curve may bend it lies among the points
  pub curve_range : (q : ℕ) → least_unleft ≤ q + 256 → (least_unleft ≤ curve_at q + 256) × (curve_at q ≤ thousand_at)
  curve_range q h = (go (dec_le (2 * min q w + knee_halves + w) (3 * thousand_at)), curve_le_top thousand_at w (up peak more most) (near peak more most) q)
    where
      go : Dec (2 * min q w + knee_halves + w ≤ 3 * thousand_at) → least_unleft ≤ curve_at q + 256
      go (yes a) = omega (arith, curve_below thousand_at w q (omega arith), far peak more most)
      go (no a) = omega (arith, (bent_range w q (omega (arith, far peak more most)) (last peak more most) (lt_of_not-le a)).0)

  pub signal_low : (q : ℕ) → least_unleft ≤ q + 256 → BentSignal low e (min q (e.H low)) (curve_at q - positions_off)
  signal_low q h = go (dec_le (2 * q + knee_halves + w) (3 * thousand_at))
    where
      a : Around e thousand_at w
      a = stand peak more most

      go : Dec (2 * q + knee_halves + w ≤ 3 * thousand_at) → BentSignal low e (min q (e.H low)) (curve_at q - positions_off)
      go (yes k) = inl (omega (arith, a), omega (arith, a, curve_le_self thousand_at w (up peak more most) (near peak more most) q))
      go (no k) =
          bent_low e thousand_at w a (far peak more most) (near peak more most) q q (curve_at q - positions_off) (omega (arith, far peak more most))
          (le_refl q) (omega (arith, curve_range q h))

  pub signal_high : (q : ℕ) → BentSignal high e (min (q + 1) (e.H high)) (curve_at q + positions_off)
  signal_high q = go (dec_le (2 * q + knee_halves + w) (3 * thousand_at))
    where
      a : Around e thousand_at w
      a = stand peak more most

      go : Dec (2 * q + knee_halves + w ≤ 3 * thousand_at) → BentSignal high e (min (q + 1) (e.H high)) (curve_at q + positions_off)
      go (yes k) =
          let f = far peak more most in
          inl (omega (arith, a, f), omega (arith, a, curve_below thousand_at w q (omega (arith, f)), f))
      go (no k) =
          bent_high e thousand_at w a (far peak more most) (near peak more most) q (q + 1) (curve_at q + positions_off) (omega (arith, far peak more most))
          (le_refl (q + 1)) (le_refl (curve_at q + positions_off))

-- ---- X, from a cell before m to a position past a cell after it
module _ (v : Pixel) (z : ℕ) (pos : 0 < z) (cap : brightest v ≤ ten_thousand * z) (from : least_unleft ≤ position_of (brightest (wholes v z))) where
  abbrev m : ℕ
  m = position_of (brightest (wholes v z))

  pub X_low : (of_lights v z pos).X low (position_signal (m - 256))
  unfolding Value
  X_low = signal_from (brightest v) z pos (brightest (wholes v z)) (whole_below v z pos) (whole_above v z pos) from

  pub X_high : (of_lights v z pos).X high (position_signal (m + 256 + 1))
  unfolding Value
  X_high =
      subst (λ q. ValueAtMost (over (brightest v) z pos) (position_signal q)) (omega arith)
      (signal_to (brightest v) z pos (brightest (wholes v z)) (whole_below v z pos) (whole_above v z pos) from cap)
