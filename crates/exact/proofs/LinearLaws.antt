-- Lights that are given themselves give sound fractions: they are ordered, and above 0 where the pixel is not black.
use mathlib.Core.Path.{subst, sym}
use mathlib.Core.Logic.{inr}
use Prim.Native.Nat.{ℕ, ◌<◌}
use native.Mathlib.Nat.{lt_of_mul-lt-mul_right, mul-pos}
use native.Mathlib.Omega.{arith}
use Rattle.laws.specs.Fraction.{Fraction, over, ◌≼◌}
use Rattle.laws.proofs.FractionLaws.{≼_refl, ≼_trans}
use Rattle.quantity.specs.Component.{Pixel, brightest}
use Rattle.quantity.proofs.ComponentLaws.{brightest_at}
use Rattle.pq.proofs.PqLaws.{at_most_light, at_least_light, signals_ordered}
use Rattle.exact.specs.ExactValue.{Value, Light, of_lights}
use Rattle.exact.proofs.LightLaws.{lights_grow}
use Rattle.exact.proofs.BentLaws.{Sound}

module _ (v : Pixel) (z : ℕ) (pos : 0 < z) where
  -- what is at least a light above 0
  light_pos : (n : ℕ) (l : Fraction) → 0 < n → over n z pos ≼ l → 0 < l.num
  light_pos n l some h = lt_of_mul-lt-mul_right z (omega (arith, h.cross, mul-pos some l.pos))

  pub lights_sound : Sound (of_lights v z pos)
  unfolding Light Value
  lights_sound =
      let B = over (brightest v) z pos in
      let top = brightest_at v in
      record {
        own = λ {i} a b. ≼_trans {q = over (v i) z pos} (record { cross = a }) (record { cross = b });
        most = λ a b. ≼_trans {q = B} (record { cross = a }) (record { cross = b });
        signals = λ a b. signals_ordered (≼_refl B) a b;
        under = λ some a b. inr (at_most_light b (record { cross = a }));
        above = λ a b. inr (at_least_light b (record { cross = a }));
        lit = λ h. (top.0, λ l a. light_pos (v top.0) l (subst (λ n. 0 < n) (sym top.1) h) (record { cross = a }));
        most_lit = λ l h a. light_pos (brightest v) l h (record { cross = a });
        signal_lit = λ x l h b a. light_pos (brightest v) l h (lights_grow {x = x} {y = x} {l = B} {k = l} (≼_refl x) (inr b) a);
      }
