-- J, H and the bent signal in k times finer units: fractions that serve go on serving, so that any two sets of them can be had in one unit.
use mathlib.Core.Path.{◌≡◌, subst₂}
use mathlib.Core.Logic.{inl, inr}
use Prim.Native.Nat.{ℕ, ◌+◌, ◌*◌, ◌^◌, ◌<◌}
use native.Mathlib.Nat.{mul-pos, mul-le-mul_right, mul-lt-mul_of_pos_right}
use native.Mathlib.Omega.{arith}
use Rattle.laws.specs.Fraction.{Fraction, over, whole}
use Rattle.laws.specs.Side.{Side, low, high, At}
use Rattle.laws.proofs.SideLaws.{at_refl, at_mul}
use Rattle.laws.proofs.PowerLaws.{powers}
use Rattle.laws.proofs.DivisionLaws.{sub_mul}
use Rattle.quantity.specs.Units.{units, thousand}
use Rattle.pq.proofs.PqLaws.{at_most_signal_lem, at_least_signal}
use Rattle.exact.specs.ExactValue.{Value, Ends, X_to_H, J_to_H, Spline, BentSignal}

pub same_value : (s : Side) (l x y : Fraction) → x.num * y.den ≡ y.num * x.den → Value s l x → Value s l y
unfolding Value
same_value low l x y e h = at_least_signal h (record { cross = omega arith })
same_value high l x y e h = at_most_signal_lem h (record { cross = omega arith })

module _ {peak : ℕ} (e : Ends peak) (k : ℕ) (pos : 0 < k) where
  pub finer_value : (s : Side) (l : Fraction) (n : ℕ) → Value s l (over n e.q e.pos) → Value s l (over (n * k) (e.q * k) (mul-pos e.pos pos))
  finer_value s l n = same_value s l (over n e.q e.pos) (over (n * k) (e.q * k) (mul-pos e.pos pos)) (omega arith)

  abbrev pub finer : Ends peak
  finer =
      record {
        q = e.q * k;
        pos = mul-pos e.pos pos;
        J = λ s. e.J s * k;
        H = λ s. e.H s * k;
        J_value = λ s. finer_value _ (whole thousand) (e.J s) (e.J_value s);
        H_value = λ s. finer_value _ (whole (peak * units)) (e.H s) (e.H_value s);
        apart = omega (arith, mul-le-mul_right k e.apart);
      }

-- ---- the bent signal

spline_scales : (s : Side) (u b v J k u' b' : ℕ) → u * k ≡ u' → b * k ≡ b' → At s (4 * u ^ 3 + 27 * b ^ 2 * v) (27 * b ^ 2 * J)
    → At s (4 * u' ^ 3 + 27 * b' ^ 2 * (v * k)) (27 * b' ^ 2 * (J * k))
spline_scales s u b v J k u' b' eu eb h =
    subst₂ (λ x y. At s (4 * x ^ 3 + 27 * y ^ 2 * (v * k)) (27 * y ^ 2 * (J * k))) eu eb
    (subst₂ (λ x y. At s x y) left right (at_mul s _ _ (k * k * k) (k * k * k) h (at_refl s (k * k * k))))
  where
    left : (4 * u ^ 3 + 27 * b ^ 2 * v) * (k * k * k) ≡ 4 * (u * k) ^ 3 + 27 * (b * k) ^ 2 * (v * k)
    left = simp powers (omega arith)

    right : 27 * b ^ 2 * J * (k * k * k) ≡ 27 * (b * k) ^ 2 * (J * k)
    right = simp powers (omega arith)

module _ {peak : ℕ} (s : Side) (e : Ends peak) (k : ℕ) (pos : 0 < k) (X v : ℕ) where
  finer_spline : Spline s e X v → Spline s (finer e k pos) (X * k) (v * k)
  finer_spline h =
      spline_scales s (X_to_H s e X) (J_to_H s e) v (e.J s) k (X_to_H s (finer e k pos) (X * k)) (J_to_H s (finer e k pos)) (rw sub_mul) (rw sub_mul) h

  pub finer_bent : BentSignal s e X v → BentSignal s (finer e k pos) (X * k) (v * k)
  finer_bent (inl a) = inl (omega (arith, mul-lt-mul_of_pos_right a.0 pos), at_mul s v X k k a.1 (at_refl s k))
  finer_bent (inr (inl a)) = inr (inl (omega (arith, mul-le-mul_right k a.0), finer_spline a.1))
  finer_bent (inr (inr a)) = inr (inr (at_mul s v X k k a.0 (at_refl s k), finer_spline a.1))
