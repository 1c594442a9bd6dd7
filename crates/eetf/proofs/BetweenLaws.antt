-- M2 of any light M1 at its position m: M1 lies from the light there to that at the next, and below the knee M2 is M1 itself.
use mathlib.Core.Path.{◌≡◌, sym, ap, ◌∙◌}
use Prim.Native.Nat.{ℕ, min, ◌+◌, ◌*◌, ◌≤◌, ◌<◌}
use native.Mathlib.Nat.{lt_of_not-le}
use native.Mathlib.Decide.{dec_le}
use native.Mathlib.Omega.{arith}
use Rattle.quantity.specs.Units.{units, thousand, last_position}
use Rattle.pq.specs.LightTable.{light_entry}
use Rattle.position.specs.Position.{light_at, position_of}
use Rattle.position.proofs.LightLaws.{light_grows}
use Rattle.position.proofs.PositionLaws.{position_is, next_light}
use Rattle.eetf.specs.Curve.{bent_light}
use Rattle.eetf.proofs.SplineLaws.{curve_above, curve_stays, curve_le_top, curve_le_self, knee_curve_below, knee_curve_above}
use Rattle.eetf.proofs.CurveLaws.{unbent, bent_by_curve, bent_position, peak_above, peak_near}

-- ---- under a peak above 1,000 cd/m2
module _ (L M1 : ℕ) (h : 1000 < L) where
  abbrev m : ℕ
  m = position_of M1

  -- from the light at the curve's position to that at the next
  pub record Between : Type 0 where
    pub least : light_at (bent_position L m) ≤ bent_light L M1 m
    pub greatest : bent_light L M1 m ≤ light_at (bent_position L m + 1)
    pub self : bent_light L M1 m ≤ M1
    pub top : bent_light L M1 m ≤ thousand

  pub bent_between : Between
  unfolding light_at last_position
  bent_between = go (dec_le (3 * position_of thousand) (2 * min m (position_of (L * units)) + position_of (L * units)))
    where
      t : ℕ
      t = position_of thousand

      w : ℕ
      w = position_of (L * units)

      s : ℕ
      s = bent_position L m

      go : Dec (3 * t ≤ 2 * min m w + w) → Between
      go (yes k) =
          let e : bent_light L M1 m ≡ light_at s = bent_by_curve L M1 m h ∙ knee_curve_above light_entry t w M1 m k ∙ ap light_at (sym (curve_above t w m k)) in
          let self = light_grows s m (omega (arith, curve_le_self t w (peak_above L h) (peak_near L h) m)) in
          let top = light_grows s t (curve_le_top t w (peak_above L h) (peak_near L h) m) in
          record {
            least = omega (arith, e);
            greatest = omega (arith, e, light_grows s (s + 1) (omega arith));
            self = omega (arith, e, self, (position_is M1).reached);
            top = omega (arith, e, top, (position_is thousand).reached);
          }
      go (no k) =
          let e : bent_light L M1 m ≡ M1 = bent_by_curve L M1 m h ∙ knee_curve_below light_entry t w M1 m (lt_of_not-le k) in
          let c : s ≡ m = curve_stays t w (peak_above L h) (peak_near L h) m (lt_of_not-le k) in
          let next = next_light M1 (omega (arith, peak_above L h, (position_is (L * units)).range)) in
          let top = light_grows (m + 1) t (omega (arith, peak_above L h)) in
          record {
            least = omega (arith, e, (position_is M1).reached, ap light_at c);
            greatest = omega (arith, e, next, ap (λ q. light_at (q + 1)) c);
            self = omega (arith, e);
            top = omega (arith, e, next, top, (position_is thousand).reached);
          }

pub bent_any_le_thousand : (L M1 : ℕ) → bent_light L M1 (position_of M1) ≤ thousand
bent_any_le_thousand L M1 = go (dec_le L 1000)
  where
    go : Dec (L ≤ 1000) → bent_light L M1 (position_of M1) ≤ thousand
    go (yes h) = omega (arith, unbent L M1 (position_of M1) h)
    go (no h) = (bent_between L M1 (lt_of_not-le h)).top
