-- The bent signal is enclosed within a few positions of the engine's bent position, from J in [t, t + 1] and H in [w − 1, w + 2].
use mathlib.Core.Path.{◌≡◌, refl, subst}
use mathlib.Core.Logic.{inl, inr}
use Prim.Native.Nat.{ℕ, min, ◌+◌, ◌-◌, ◌*◌, ◌^◌, ◌≤◌, ◌<◌}
use native.Mathlib.Nat.{le_dest, mul-le-mul, mul-le-mul_left}
use native.Mathlib.Decide.{dec_le}
use native.Mathlib.Omega.{arith}
use Rattle.laws.specs.Fraction.{whole}
use Rattle.laws.specs.Side.{Side, low, high}
use Rattle.laws.proofs.PowerLaws.{powers}
use Rattle.quantity.specs.Units.{units, thousand}
use Rattle.pq.specs.Pq.{position_signal}
use Rattle.exact.specs.ExactValue.{Value, Ends, Spline, BentSignal}
use Rattle.eetf.proofs.CubicLaws.{Place, steep, flat}
use Rattle.eetf.proofs.SplineLaws.{curve, curve_le_top, curve_le_self, curve_place, curve_near_knee}
use Rattle.distance.proofs.FoundNumbers.{positions_off, knee_halves, thousand_at, least_bent}

-- ---- the spline's inequality at the unfavourable ends
spline_low : (a c q u v t : ℕ) → 96 ≤ c → Place a (c + 2) q → u ≤ a + 3 → v + (q + positions_off) ≤ t → 4 * u ^ 3 + 27 * c ^ 2 * v ≤ 27 * c ^ 2 * t
spline_low a c q u v t l p hu hv =
    simp powers (omega (arith, steep a c q l p, mul-le-mul hu (mul-le-mul hu hu), mul-le-mul_left (c * c) hv))

spline_high : (a b q e s v t : ℕ) → 1 ≤ b → Place a b q → a ≤ e + 2 → s + q ≡ t → s + positions_off ≤ v
    → 27 * (b + 2) ^ 2 * (t + 1) ≤ 4 * e ^ 3 + 27 * (b + 2) ^ 2 * v
spline_high a b q e s v t l p he hq hv = go (dec_le 7 q)
  where
    go : Dec (7 ≤ q) → 27 * (b + 2) ^ 2 * (t + 1) ≤ 4 * e ^ 3 + 27 * (b + 2) ^ 2 * v
    go (yes k) =
        let r = le_dest k in
        let more : t + 1 ≤ r.0 + v = omega (arith, r.1) in
        let shallow = flat a b r.0 e l he (subst (Place a b) (omega (arith, r.1)) p) in
        simp powers (omega (arith, shallow, mul-le-mul_left ((b + 2) * (b + 2)) more))
    go (no k) =
        let more : t + 1 ≤ v = omega arith in
        simp powers (omega (arith, mul-le-mul_left ((b + 2) * (b + 2)) more))

-- ---- fractions of J and H that stand so about t and w
pub record Around {peak : ℕ} (e : Ends peak) (t w : ℕ) : Type 0 where
  pub J_low : e.J low ≡ t
  pub J_high : e.J high ≡ t + 1
  pub H_low : e.H low + 1 ≡ w
  pub H_high : e.H high ≡ w + 2

-- such ends in positions, from the four values
module _ (peak t w : ℕ) (far : t + 98 ≤ w)
    (J_low : Value low (whole thousand) (position_signal t)) (J_high : Value high (whole thousand) (position_signal (t + 1)))
    (H_low : Value low (whole (peak * units)) (position_signal (w - 1))) (H_high : Value high (whole (peak * units)) (position_signal (w + 2))) where
  abbrev pub ends_around : Ends peak
  ends_around =
      record {
        q = 897024;
        pos = (position_signal 0).pos;
        J = elim [ low ↦ t | high ↦ t + 1 ];
        H = elim [ low ↦ w - 1 | high ↦ w + 2 ];
        J_value = elim [ low ↦ J_low | high ↦ J_high ];
        H_value = elim [ low ↦ H_low | high ↦ H_high ];
        apart = omega arith;
      }

  pub are_around : Around ends_around t w
  are_around = record { J_low = refl; J_high = refl; H_low = omega arith; H_high = refl }

-- ---- X stands at a position m, or between it and the next
module _ {peak : ℕ} (e : Ends peak) (t w : ℕ) (around : Around e t w) (far : t + 98 ≤ w) (near : w ≤ 3 * t) where
  -- five half positions and more below the knee it serves itself
  pub straight : (s : Side) (m x : ℕ) → 2 * m + knee_halves + w ≤ 3 * t → x ≤ m + 1 → BentSignal s e (min x (e.H s)) x
  straight low m x h k = inl (omega (arith, around), omega (arith, around))
  straight high m x h k = inl (omega (arith, around), omega (arith, around))

  -- from there on so many positions below the curve, and more, are a lower fraction
  pub bent_low : (m x v : ℕ) → 3 * t < 2 * min m w + knee_halves + w → m ≤ x → v + positions_off ≤ curve t w m → BentSignal low e (min x (e.H low)) v
  bent_low m x v h k l =
      let up : t < w = omega arith in
      let top = curve_le_top t w up near m in
      let self = curve_le_self t w up near m in
      let c = e.H low - e.J high in
      let a = w - min m w in
      let q = t - curve t w m in
      let p = curve_place t w up near m a (c + 2) q (omega arith) (omega (arith, around)) (omega arith) (omega (arith, around)) (omega arith) in
      let curved = spline_low a c q (e.H high - min x (e.H low)) v (e.J low) (omega (arith, around)) p (omega (arith, around)) (omega (arith, around)) in
      inr (inr (omega (arith, around), curved))

  -- and so many above it, and more, an upper one
  pub bent_high : (m x v : ℕ) → 3 * t < 2 * min m w + knee_halves + w → x ≤ m + 1 → curve t w m + positions_off ≤ v → BentSignal high e (min x (e.H high)) v
  bent_high m x v h k l = go (dec_le (3 * e.J high) (2 * min x (e.H high) + e.H low))
    where
      up : t < w
      up = omega arith

      top : curve t w m ≤ t
      top = curve_le_top t w up near m

      p : Place (w - min m w) (w - t) (t - curve t w m)
      p = curve_place t w up near m (w - min m w) (w - t) (t - curve t w m) (omega arith) (omega arith) (omega (arith, top)) (omega arith) (omega arith)

      rest : w - min m w ≤ e.H low - min x (e.H high) + 2
      rest = omega (arith, around)

      at_ends : 27 * (w - t + 2) ^ 2 * (t + 1) ≤ 4 * (e.H low - min x (e.H high)) ^ 3 + 27 * (w - t + 2) ^ 2 * v
      at_ends = spline_high (w - min m w) (w - t) (t - curve t w m) (e.H low - min x (e.H high)) (curve t w m) v t (omega arith) p rest
          (omega (arith, top)) l

      curved : Spline high e (min x (e.H high)) v
      curved =
          let wide : e.H high - e.J low ≡ w - t + 2 = omega (arith, around) in
          rw (wide, around.J_high) at_ends

      go : Dec (3 * e.J high ≤ 2 * min x (e.H high) + e.H low) → BentSignal high e (min x (e.H high)) v
      go (yes r) = inr (inl (r, curved))
      go (no r) = inr (inr (omega (arith, around, top, p.shallow), curved))

-- ---- where a bent position lies, t being that of 1,000 cd/m2
pub bent_range : (w m : ℕ) → 674410 ≤ w → w ≤ 897024 → 3 * thousand_at < 2 * min m w + knee_halves + w
    → (least_bent ≤ curve thousand_at w m) × (curve thousand_at w m ≤ thousand_at)
bent_range w m l h k = (
  omega (arith, curve_near_knee thousand_at w (omega arith) (omega arith) m (omega arith) (omega arith)),
  curve_le_top thousand_at w (omega arith) (omega arith) m,
)
