-- The bent signal: no lower fraction exceeds an upper one, a lower one is at most its X, and an upper one at least its X, or 1/20.
use mathlib.Core.Path.{◌≡◌, ap, ◌∙◌, subst}
use mathlib.Core.Logic.{◌⊎◌, inl, inr}
use Prim.Native.Nat.{ℕ, min, max, ◌+◌, ◌-◌, ◌*◌, ◌^◌, ◌≤◌, ◌<◌}
use native.Mathlib.Nat.{le_refl, le_dest, lt_of_not-le, mul-pos, mul-le-mul_right, mul-lt-mul_of_pos_right, le_of_mul-le-mul_left, le_of_mul-le-mul_right}
use native.Mathlib.Decide.{dec_le}
use native.Mathlib.Omega.{arith}
use Rattle.laws.specs.Fraction.{over, whole}
use Rattle.laws.specs.Side.{Side, low, high}
use Rattle.laws.proofs.PowerLaws.{powers}
use Rattle.quantity.specs.Units.{units, thousand}
use Rattle.eetf.proofs.CubicLaws.{below_diagonal}
use Rattle.exact.specs.ExactValue.{Ends, BentSignal}
use Rattle.exact.proofs.LightLaws.{value_ordered, values_apart, of_thousand, at_most_two}
use Rattle.exact.proofs.FinerLaws.{finer, finer_bent}
use Rattle.exact.proofs.SoundLaws.{Within, Beside, bent_sound, beside_ordered, above_knee}

smaller_scales : (x h k : ℕ) → min x h * k ≡ min (x * k) (h * k)
smaller_scales x h k = go (dec_le x h)
  where
    go : Dec (x ≤ h) → min x h * k ≡ min (x * k) (h * k)
    go (yes l) = let m : min x h ≡ x = omega arith in ap (λ n. n * k) m ∙ omega (arith, mul-le-mul_right k l)
    go (no l) =
        let m : min x h ≡ h = omega arith in
        let g : h ≤ x = omega arith in
        ap (λ n. n * k) m ∙ omega (arith, mul-le-mul_right k g)

-- the spline stays under its diagonal: a = H − X, b = H − J, v at most J − 4a³ / (27b²)
under_diagonal : (a b v J : ℕ) → 0 < b → 4 * a ^ 3 + 27 * b ^ 2 * v ≤ 27 * b ^ 2 * J → a + v ≤ J + b
under_diagonal a b v J p h = go (le_dest (le_of_mul-le-mul_left {m = v} {n = J} {k = b * b} (omega (arith, simp powers at h)) (mul-pos p p)))
  where
    go : (k : ℕ) × (v + k ≡ J) → a + v ≤ J + b
    go w = omega (arith, below_diagonal a b w.0 p (omega (arith, simp powers at h, ap (λ x. b * b * x) w.1)), w.1)

-- what is at most an X below the knee by j and h lies below it by J and H too, so that a straight signal u is at least that
straight_least : (x y u J H j h : ℕ) → 2 * x + h < 3 * j → j ≤ J → H ≤ h → J < H → y ≤ x → (2 * min y H + H < 3 * J → min y H ≤ u) → y ≤ u
straight_least x y u J H j h below h_j h_h up hy straight = omega (arith, straight (omega arith))

-- ---- J and H have places that two sets of fractions enclose, in the product of their units
module _ {peak : ℕ} where
  J_ordered : (e f : Ends peak) → e.J low * f.q ≤ f.J high * e.q
  J_ordered e f = omega (arith, (values_apart (whole thousand) _ _ _ _ (e.J_value low) (f.J_value high)).cross)

  H_ordered : (e f : Ends peak) → e.H low * f.q ≤ f.H high * e.q
  H_ordered e f = omega (arith, (values_apart (whole (peak * units)) _ _ _ _ (e.H_value low) (f.H_value high)).cross)

  own_J : (e : Ends peak) → e.J low ≤ e.J high
  own_J e = le_of_mul-le-mul_right (J_ordered e e) e.pos

  own_H : (e : Ends peak) → e.H low ≤ e.H high
  own_H e = le_of_mul-le-mul_right (H_ordered e e) e.pos

  common : (e f : Ends peak) (J H : ℕ) → J ≡ max (e.J low * f.q) (f.J low * e.q) → H ≡ max (e.H low * f.q) (f.H low * e.q)
      → Within (finer e f.q f.pos) J H
  common e f J H j h =
      record {
        J_from = omega arith;
        J_to = omega (arith, mul-le-mul_right f.q (own_J e), J_ordered f e);
        H_from = omega arith;
        H_to = omega (arith, mul-le-mul_right f.q (own_H e), H_ordered f e);
      }

  apart : (e f : Ends peak) → max (e.J low * f.q) (f.J low * e.q) < max (e.H low * f.q) (f.H low * e.q)
  apart e f = omega (arith, mul-le-mul_right f.q e.apart, f.pos, mul-le-mul_right f.q (own_J e), J_ordered f e)

  -- ---- the bent signal
  finer_smaller : (s : Side) (e : Ends peak) (k : ℕ) (pos : 0 < k) (x v : ℕ) → BentSignal s e (min x (e.H s)) v
      → BentSignal s (finer e k pos) (min (x * k) (e.H s * k)) (v * k)
  finer_smaller s e k pos x v b =
      subst (λ y. BentSignal s (finer e k pos) y (v * k)) (smaller_scales x (e.H s) k) (finer_bent s e k pos (min x (e.H s)) v b)

  pub bent_signal_ordered : (e f : Ends peak) (x z v u : ℕ) → x * f.q ≤ z * e.q → BentSignal low e (min x (e.H low)) v
      → BentSignal high f (min z (f.H high)) u → v * f.q ≤ u * e.q
  bent_signal_ordered e f x z v u h a b =
      let J = max (e.J low * f.q) (f.J low * e.q) in
      let H = max (e.H low * f.q) (f.H low * e.q) in
      let a' = finer_smaller low e f.q f.pos x v a in
      let b' = finer_smaller high f e.q e.pos z u b in
      beside_ordered J H (min (x * f.q) H) (v * f.q) (u * e.q) (apart e f)
      (bent_sound (finer e f.q f.pos) J H (common e f J H (omega arith) (omega arith)) low (x * f.q) (x * f.q) (v * f.q) (le_refl (x * f.q)) a')
      (bent_sound (finer f e.q e.pos) J H (common f e J H (omega arith) (omega arith)) high (z * e.q) (x * f.q) (u * e.q) h b')

  -- an upper bent signal is at least its X, or 1/20: J is at least 7/10 and H at most 2
  pub bent_signal_least : (f : Ends peak) (x u : ℕ) → BentSignal high f (min x (f.H high)) u → (x ≤ u) ⊎ (f.q ≤ 20 * u)
  bent_signal_least f x u b = go (dec_le (3 * f.J high) (2 * min x (f.H low) + f.H low)) (dec_le x (f.H low))
    where
      within : Within f (f.J high) (f.H low)
      within = record { J_from = own_J f; J_to = le_refl (f.J high); H_from = le_refl (f.H low); H_to = own_H f }

      beside : Beside high (f.J high) (f.H low) (min x (f.H low)) u
      beside = bent_sound f (f.J high) (f.H low) within high x x u (le_refl x) b

      J_least : 7 * f.q ≤ f.J high * 10
      J_least = (value_ordered (whole thousand) {y = over (f.J high) f.q f.pos} of_thousand (f.J_value high)).cross

      H_most : f.H low * 1 ≤ 2 * f.q
      H_most = (at_most_two (whole (peak * units)) (over (f.H low) f.q f.pos) (f.H_value low)).cross

      go : Dec (3 * f.J high ≤ 2 * min x (f.H low) + f.H low) → Dec (x ≤ f.H low) → (x ≤ u) ⊎ (f.q ≤ 20 * u)
      go (yes k) d =
          let c = f.H low - f.J high in
          let knee = above_knee (f.H low - min x (f.H low)) c c u (f.J high) (omega (arith, f.apart)) (omega (arith, f.apart)) (le_refl c)
          (beside.bent k) in
          inr (omega (arith, f.apart, J_least, H_most))
      go (no k) (yes l) = inl (omega (arith, beside.straight (lt_of_not-le k)))
      go (no k) (no l) = inr (omega (arith, beside.straight (lt_of_not-le k), f.apart, J_least))

  -- a lower bent signal is at most its X
  pub bent_signal_most : (e : Ends peak) (x v : ℕ) → BentSignal low e (min x (e.H low)) v → v ≤ x
  bent_signal_most e x v (inl a) = omega (arith, a.1)
  bent_signal_most e x v (inr (inl a)) =
      let under = under_diagonal (e.H high - min x (e.H low)) (e.H low - e.J high) v (e.J low) (omega (arith, e.apart)) a.1 in
      omega (arith, under, own_J e, own_H e, e.apart)
  bent_signal_most e x v (inr (inr a)) = omega (arith, a.0)

  -- where x lies surely below the knee by ends e, an upper bent signal of z by ends f is at least the smaller of both
  pub bent_signal_straight : (e f : Ends peak) (x z u y : ℕ) → 2 * x + e.H high < 3 * e.J low → BentSignal high f (min z (f.H high)) u
      → y ≤ z * e.q → y ≤ x * f.q → y ≤ u * e.q
  bent_signal_straight e f x z u y below b from_z from_x =
      let J = max (e.J low * f.q) (f.J low * e.q) in
      let H = max (e.H low * f.q) (f.H low * e.q) in
      let own = common e f J H (omega arith) (omega arith) in
      let side = bent_sound (finer f e.q e.pos) J H (common f e J H (omega arith) (omega arith)) high (z * e.q) y (u * e.q) from_z
      (finer_smaller high f e.q e.pos z u b) in
      let knee : 2 * (x * f.q) + e.H high * f.q < 3 * (e.J low * f.q) = omega (arith, mul-lt-mul_of_pos_right below f.pos) in
      straight_least (x * f.q) y (u * e.q) J H (e.J low * f.q) (e.H high * f.q) knee own.J_from own.H_to (apart e f) from_x side.straight
