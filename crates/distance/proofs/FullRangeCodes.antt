-- The light of every full-range code, enclosed: its signal lies from its position to the next, and so the light there encloses its light. Lights in
-- units.
use mathlib.Core.Path.{◌≡◌, sym, subst}
use mathlib.Core.Logic.{◌⊎◌, inl, inr}
use Prim.Native.Nat.{ℕ, ◌+◌, ◌≤◌, ◌<◌}
use native.Mathlib.Decide.{dec_le}
use native.Mathlib.Omega.{arith}
use Rattle.laws.specs.Fraction.{Fraction, whole}
use Rattle.laws.specs.Side.{Side, low, high, Bounds}
use Rattle.laws.proofs.SideLaws.{at_refl}
use Rattle.quantity.specs.declared.sample_format.Depth.{Depth}
use Rattle.quantity.specs.declared.sample_format.Range.TheVariants.{Full}
use Rattle.quantity.specs.declared.sample_format.SampleFormat.{SampleFormat}
use Rattle.quantity.specs.SampleFormat.{coded}
use Rattle.pq.specs.Pq.{position_signal}
use Rattle.pq.proofs.PqLaws.{at_most_signal_lem, at_least_signal, at_most_light, at_least_light}
use Rattle.position.specs.Position.{light_at}
use Rattle.position.specs.Code.{above_black, code_signal, code_position, code_light}
use Rattle.position.proofs.CodeLaws.{above_le, from_position, to_position, code_light_at, black_light}
use Rattle.full_range.proofs.FullRangeTests.{beside, Held}
use Rattle.full_range.proofs.FullRangeLights.{held}
use Rattle.exact.specs.ExactValue.{Value, Light}
use Rattle.distance.proofs.FoundNumbers.{first_light}
use Rattle.distance.proofs.FirstCodes.{first_from, first_ge}

-- the position that a signal has at least, and the one that it has at most
abbrev pub from_to : Side → ℕ → ℕ
from_to low m = m
from_to high m = m + 1

-- what encloses a held light encloses the light of such a signal
pub held_light : {m : ℕ} → Held (light_at m) m → (s : Side) (l : Fraction) → Bounds s l (whole (beside s (light_at m)))
    → Light s (position_signal (from_to s m)) l
unfolding Light Value
held_light h low l c = inr (at_most_light h.below (record { cross = c }))
held_light h high l c = inr (at_least_light h.above (record { cross = c }))

module _ (d : Depth) where
  abbrev f : SampleFormat
  f = coded d Full

  -- a code D above black
  module _ (D : ℕ) (some : 0 < above_black f D) where
    abbrev q : ℕ
    q = code_position f D

    pub held_at : Held (light_at q) q
    held_at = held d (above_black f D) some (above_le f D)

    pub signal_from_to : (s : Side) → Bounds s (position_signal (from_to s q)) (code_signal f D)
    signal_from_to low = (from_position f D).cross
    signal_from_to high = omega (arith, (to_position f D).cross)

    pub light_from_to : (s : Side) (l : Fraction) → Light s (position_signal (from_to s q)) l → Light s (code_signal f D) l
    unfolding Light Value
    light_from_to low l (inl a) = absurd (omega (arith, a.0, first_from d D some))
    light_from_to low l (inr a) = inr (at_most_signal_lem a (record { cross = signal_from_to low }))
    light_from_to high l (inl a) = absurd (omega (arith, a.0))
    light_from_to high l (inr a) = inr (at_least_signal a (record { cross = signal_from_to high }))

  pub own : (s : Side) (D : ℕ) → Light s (code_signal f D) (whole (beside s (code_light f D)))
  unfolding Light
  own s D = go (dec_le 1 (above_black f D))
    where
      none_beside : (s : Side) → code_light f D ≡ 0 → beside s (code_light f D) ≡ 0
      none_beside low e = omega arith
      none_beside high e = omega arith

      go : Dec (1 ≤ above_black f D) → Light s (code_signal f D) (whole (beside s (code_light f D)))
      go (yes h) =
          subst (λ l. Light s (code_signal f D) (whole (beside s l))) (sym (code_light_at f D))
          (light_from_to D h s _ (held_light (held_at D h) s _ (at_refl s _)))
      go (no h) = let e : above_black f D ≡ 0 = omega arith in inl (e, none_beside s (black_light f D e))

  pub dark_or_first : (D : ℕ) → (code_light f D ≡ 0) ⊎ (first_light ≤ code_light f D)
  dark_or_first D = go (dec_le 1 (above_black f D))
    where
      go : Dec (1 ≤ above_black f D) → (code_light f D ≡ 0) ⊎ (first_light ≤ code_light f D)
      go (yes h) = inr (omega (arith, code_light_at f D, first_ge d D h))
      go (no h) = inl (black_light f D (omega arith))
