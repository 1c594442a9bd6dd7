-- The enclosure of the bent signal is sound: its fractions stand on their sides of the curve at every X, J and H that theirs enclose.
use mathlib.Core.Path.{◌≡◌, ap}
use mathlib.Core.Logic.{inl, inr}
use Prim.Native.Nat.{ℕ, min, ◌+◌, ◌-◌, ◌*◌, ◌^◌, ◌≤◌, ◌<◌}
use native.Mathlib.Nat.{le_dest, lt_of_not-le, mul-pos, mul-le-mul, mul-le-mul_left, mul-le-mul_right, le_of_mul-le-mul_left}
use native.Mathlib.Decide.{dec_le}
use native.Mathlib.Omega.{arith}
use Rattle.laws.specs.Side.{Side, low, high, At}
use Rattle.laws.proofs.PowerLaws.{powers}
use Rattle.exact.specs.ExactValue.{Ends, X_to_H, J_to_H, BentSignal}

-- J and H themselves, in the unit of their fractions
pub record Within {peak : ℕ} (e : Ends peak) (J H : ℕ) : Type 0 where
  pub J_from : e.J low ≤ J
  pub J_to : J ≤ e.J high
  pub H_from : e.H low ≤ H
  pub H_to : H ≤ e.H high

-- v is on the side s of the bent signal of X, J and H: X where 2X < 3J − H, else J − 4(H − X)³ / (27(H − J)²)
pub record Beside (s : Side) (J H X v : ℕ) : Type 0 where
  pub straight : 2 * X + H < 3 * J → At s v X
  pub bent : 3 * J ≤ 2 * X + H → At s (4 * (H - X) ^ 3 + 27 * (H - J) ^ 2 * v) (27 * (H - J) ^ 2 * J)

-- ---- the spline, of the lengths u = H − X and b = H − J, when each moves from its unfavourable fraction to its own place
spline_falls : (u u' b b' v J J' : ℕ) → 0 < b → u' ≤ u → b ≤ b' → J ≤ J' → 4 * u ^ 3 + 27 * b ^ 2 * v ≤ 27 * b ^ 2 * J
    → 4 * u' ^ 3 + 27 * b' ^ 2 * v ≤ 27 * b' ^ 2 * J'
spline_falls u u' b b' v J J' p hu hb h_j h = go (le_dest (le_of_mul-le-mul_left {m = v} {n = J} {k = b * b} (omega (arith, simp powers at h)) (mul-pos p p)))
  where
    go : (k : ℕ) × (v + k ≡ J) → 4 * u' ^ 3 + 27 * b' ^ 2 * v ≤ 27 * b' ^ 2 * J'
    go w =
        let more : v + w.0 ≤ J' = omega (arith, w.1) in
        simp powers
        (omega (
          arith,
          mul-le-mul hu (mul-le-mul hu hu),
          simp powers at h,
          ap (λ x. b * b * x) w.1,
          mul-le-mul_right w.0 (mul-le-mul hb hb),
          mul-le-mul_left (b' * b') more,
        ))

spline_rises : (u u' b b' v J J' : ℕ) → u ≤ u' → b' ≤ b → J' ≤ J → 27 * b ^ 2 * J ≤ 4 * u ^ 3 + 27 * b ^ 2 * v
    → 27 * b' ^ 2 * J' ≤ 4 * u' ^ 3 + 27 * b' ^ 2 * v
spline_rises u u' b b' v J J' hu hb h_j h = go (dec_le v J')
  where
    go : Dec (v ≤ J') → 27 * b' ^ 2 * J' ≤ 4 * u' ^ 3 + 27 * b' ^ 2 * v
    go (yes l) =
        let w = le_dest l in
        let more : v + w.0 ≤ J = omega (arith, w.1) in
        simp powers
        (omega (
          arith,
          mul-le-mul hu (mul-le-mul hu hu),
          simp powers at h,
          ap (λ x. b' * b' * x) w.1,
          mul-le-mul_right w.0 (mul-le-mul hb hb),
          mul-le-mul_left (b * b) more,
        ))
    go (no l) =
        let less : J' ≤ v = omega arith in
        simp powers (omega (arith, mul-le-mul_left (b' * b') less))

-- ---- from the knee on, where 2u ≤ 3b, the spline lies at most b/2 below J
pub spline_from_knee : (u b v J : ℕ) → 2 * u ≤ 3 * b → 2 * v + b ≤ 2 * J → 4 * u ^ 3 + 27 * b ^ 2 * v ≤ 27 * b ^ 2 * J
spline_from_knee u b v J h k = simp powers (omega (arith, mul-le-mul h (mul-le-mul h h), mul-le-mul_left (b * b) k))

pub above_knee : (u c b v J : ℕ) → 0 < b → 2 * u ≤ 3 * c → c ≤ b → 27 * b ^ 2 * J ≤ 4 * u ^ 3 + 27 * b ^ 2 * v → 2 * J ≤ c + 2 * v
above_knee u c b v J p h l k =
    le_of_mul-le-mul_left {k = 27 * (b * b)}
    (omega (arith, mul-le-mul h (mul-le-mul h h), mul-le-mul_right c (mul-le-mul l l), simp powers at k)) (omega (arith, mul-pos p p))

-- ---- the bent signal
module _ {peak : ℕ} (e : Ends peak) (J H : ℕ) (f : Within e J H) where
  low_sound : (x X v : ℕ) → x ≤ X → x ≤ e.H low → X ≤ H → BentSignal low e x v → Beside low J H X v
  low_sound x X v h l m (inl a) =
      record {
        straight = λ g. omega (arith, a.1);
        bent = λ g. spline_from_knee (H - X) (H - J) v J (omega (arith, f, e.apart)) (omega (arith, a.0, a.1, f, e.apart));
      }
  low_sound x X v h l m (inr (inl a)) =
      record {
        straight = λ g. absurd (omega (arith, a.0, f));
        bent = λ g. spline_falls (X_to_H low e x) (H - X) (J_to_H low e) (H - J) v (e.J low) J (omega (arith, e.apart)) (omega (arith, f))
            (omega (arith, f)) f.J_from a.1;
      }
  low_sound x X v h l m (inr (inr a)) =
      record {
        straight = λ g. omega (arith, a.0);
        bent = λ g. spline_falls (X_to_H low e x) (H - X) (J_to_H low e) (H - J) v (e.J low) J (omega (arith, e.apart)) (omega (arith, f))
            (omega (arith, f)) f.J_from a.1;
      }

  high_sound : (x X v : ℕ) → X ≤ x → X ≤ H → BentSignal high e x v → Beside high J H X v
  high_sound x X v h m (inl a) = record { straight = λ g. omega (arith, a.1); bent = λ g. absurd (omega (arith, a.0, f)) }
  high_sound x X v h m (inr (inl a)) =
      record {
        straight = λ g. let t = above_knee (X_to_H high e x) (e.H low - e.J high) (J_to_H high e) v (e.J high) (omega (arith, f, e.apart))
            (omega (arith, a.0, e.apart)) (omega (arith, f)) a.1 in omega (arith, f, e.apart);
        bent = λ g. spline_rises (X_to_H high e x) (H - X) (J_to_H high e) (H - J) v (e.J high) J (omega (arith, f)) (omega (arith, f)) f.J_to a.1;
      }
  high_sound x X v h m (inr (inr a)) =
      record {
        straight = λ g. omega (arith, a.0);
        bent = λ g. spline_rises (X_to_H high e x) (H - X) (J_to_H high e) (H - J) v (e.J high) J (omega (arith, f)) (omega (arith, f)) f.J_to a.1;
      }

  -- x is X's fraction on the side s, or X itself
  pub bent_sound : (s : Side) (x X v : ℕ) → At s x X → BentSignal s e (min x (e.H s)) v → Beside s J H (min X H) v
  bent_sound low x X v h b = low_sound (min x (e.H low)) (min X H) v (omega (arith, f)) (omega arith) (omega arith) b
  bent_sound high x X v h b = high_sound (min x (e.H high)) (min X H) v (omega (arith, f)) (omega arith) b

-- so no lower fraction exceeds an upper one
pub beside_ordered : (J H X v u : ℕ) → J < H → Beside low J H X v → Beside high J H X u → v ≤ u
beside_ordered J H X v u p a b = go (dec_le (3 * J) (2 * X + H))
  where
    gap : 0 < H - J
    gap = omega arith

    go : Dec (3 * J ≤ 2 * X + H) → v ≤ u
    go (yes k) = le_of_mul-le-mul_left {k = 27 * ((H - J) * (H - J))} (omega (arith, simp powers at (a.bent k), simp powers at (b.bent k)))
        (omega (arith, mul-pos gap gap))
    go (no k) = omega (arith, a.straight (lt_of_not-le k), b.straight (lt_of_not-le k))
