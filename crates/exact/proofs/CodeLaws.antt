-- Codes of every depth and range give sound fractions: they are ordered, and above 0 where the pixel is not black.
use mathlib.Core.Path.{subst, sym}
use Prim.Native.Nat.{ℕ, ◌*◌, ◌≤◌, ◌<◌}
use native.Mathlib.Nat.{mul-le-mul_left, mul-le-mul_right}
use native.Mathlib.Omega.{arith}
use Rattle.laws.specs.Fraction.{Fraction, ◌≼◌}
use Rattle.laws.specs.Side.{high}
use Rattle.laws.proofs.FractionLaws.{≼_refl, ≼_trans}
use Rattle.quantity.specs.declared.sample_format.SampleFormat.{SampleFormat}
use Rattle.quantity.specs.SampleFormat.{excursion}
use Rattle.quantity.specs.Component.{Pixel, brightest}
use Rattle.quantity.proofs.ComponentLaws.{brightest_at}
use Rattle.position.specs.Code.{code_signal}
use Rattle.position.proofs.CodeLaws.{excursion_most}
use Rattle.exact.specs.ExactValue.{Light, of_codes}
use Rattle.exact.proofs.LightLaws.{light_ordered, light_of_less, light_of_more, light_above_zero}
use Rattle.exact.proofs.BentLaws.{Sound}

module _ (f : SampleFormat) where
  -- the signal of a code above black, or more, is at least one position
  code_pos : (D : ℕ) (x l : Fraction) → 0 < (code_signal f D).num → code_signal f D ≼ x → Light high x l → 0 < l.num
  code_pos D x l seen h a = light_above_zero x l (enough (code_signal f D).num x.num x.den (excursion f) seen (excursion_most f) h.cross) a
    where
      enough : (n a b e : ℕ) → 0 < n → e ≤ 4095 → n * b ≤ a * e → b ≤ 897024 * a
      enough n a b e u m k = omega (arith, mul-le-mul_right b u, mul-le-mul_left a m)

  pub codes_sound : (p : Pixel) → Sound (of_codes f p)
  codes_sound p =
      let X = code_signal f (brightest p) in
      let top = brightest_at p in
      record {
        own = λ {i} a b. light_ordered (code_signal f (p i)) a b;
        most = light_ordered X;
        signals = λ a b. ≼_trans {q = X} (record { cross = a }) (record { cross = b });
        under = λ {l} {z} some a b. light_of_more {x = X} {y = z} l some (record { cross = b }) a;
        above = λ {k} {x} a b. light_of_less {x = x} {y = X} k (record { cross = b }) a;
        lit = λ h. (
          top.0,
          λ l a. code_pos (p top.0) (code_signal f (p top.0)) l (subst (λ D. 0 < (code_signal f D).num) (sym top.1) h) (≼_refl _) a,
        );
        most_lit = λ l h a. code_pos (brightest p) X l h (≼_refl _) a;
        signal_lit = λ x l h b a. code_pos (brightest p) x l h (record { cross = b }) a;
      }
