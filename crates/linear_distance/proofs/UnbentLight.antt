-- Where the curve leaves the brightest of lights that are given themselves: M2 is M1, and the bent light is the brightest light itself.
use mathlib.Core.Path.{◌≡◌, ◌∙◌}
use mathlib.Core.Logic.{◌⊎◌, inl, inr}
use Prim.Native.Nat.{ℕ, ◌+◌, ◌*◌, ◌/◌, ◌≤◌, ◌<◌}
use native.Mathlib.Nat.{lt_of_not-le, mul-le-mul_right}
use native.Mathlib.Decide.{dec_le}
use native.Mathlib.Omega.{arith}
use Rattle.laws.specs.Fraction.{over}
use Rattle.laws.specs.Side.{Side, low, high}
use Rattle.quantity.specs.Units.{units, thousand}
use Rattle.quantity.specs.Component.{Component, Pixel, brightest}
use Rattle.quantity.proofs.ComponentLaws.{each_le}
use Rattle.pq.specs.LightTable.{light_entry}
use Rattle.position.specs.Position.{position_of}
use Rattle.position.proofs.PositionLaws.{position_grows}
use Rattle.position.proofs.PeakLaws.{thousand_position}
use Rattle.eetf.specs.Curve.{bent_light}
use Rattle.eetf.proofs.SplineLaws.{knee_curve_below}
use Rattle.eetf.proofs.CurveLaws.{unbent, bent_by_curve}
use Rattle.pixel.specs.Conversion.{bent_of, mapped_of}
use Rattle.pixel.proofs.PixelLaws.{ratio_kept, mapped_of_none}
use Rattle.exact.specs.ExactValue.{Value, of_lights, BentLight}
use Rattle.distance.proofs.NearLaws.{unmapped}
use Rattle.distance.proofs.BentLightLaws.{far, straight_by}
use Rattle.linear_distance.proofs.WholeLights.{wholes, whole_below, whole_above, most_itself}
use Rattle.linear_distance.proofs.LinearSignal.{signal_under}

-- a code or more below the knee
abbrev pub BelowKnee : (peak m : ℕ) → Type 0
BelowKnee peak m = 2 * m + 2048 + position_of (peak * units) ≤ 3 * position_of thousand

-- M is the brightest whole part, m its position
abbrev pub Left : (peak M : ℕ) → Type 0
Left peak M = ((peak ≤ 1000) × (M < thousand)) ⊎ ((1000 < peak) × BelowKnee peak (position_of M))

pub stays : (peak M : ℕ) → Left peak M → bent_light peak M (position_of M) ≡ M
stays peak M (inl c) = unbent peak M (position_of M) c.0 ∙ omega (arith, c.1)
stays peak M (inr c) =
    bent_by_curve peak M (position_of M) c.0
    ∙ knee_curve_below light_entry (position_of thousand) (position_of (peak * units)) M (position_of M) (omega (arith, c.1))

module _ (peak : ℕ) (most : peak ≤ 10000) where
  knee_cell : (M : ℕ) → 1000 < peak → BelowKnee peak (position_of M) → position_of M / 256 + 2 ≤ 3504
  knee_cell M h c = omega (arith, far peak h most, thousand_position)

  -- such lights are below 1,000 cd/m2
  pub left_below : (M : ℕ) → Left peak M → M < thousand
  left_below M (inl c) = c.1
  left_below M (inr c) =
      lt_of_not-le (λ h. absurd (omega (arith, c.1, far peak c.0 most, thousand_position, position_grows thousand M h)))

  module _ (v : Pixel) (z : ℕ) (pos : 0 < z) (c : Left peak (brightest (wholes v z))) where
    abbrev x : Pixel
    x = wholes v z

    abbrev M : ℕ
    M = brightest (wholes v z)

    pub bent_itself : (s : Side) → BentLight (of_lights v z pos) s peak (over (brightest v) z pos)
    unfolding BentLight Value
    bent_itself = go c
      where
        go : Left peak M → (s : Side) → BentLight (of_lights v z pos) s peak (over (brightest v) z pos)
        go (inl c) low = inl (c.0, (omega (arith, whole_above v z pos, mul-le-mul_right z c.1), most_itself v z pos low))
        go (inl c) high = inl (c.0, inr (most_itself v z pos high))
        go (inr c) s =
            let cell = knee_cell M c.0 c.1 in
            straight_by peak c.0 most (of_lights v z pos) s (256 * (position_of M / 256 + 2)) (over (brightest v) z pos)
            (signal_under (brightest v) z pos M (whole_below v z pos) (whole_above v z pos) cell)
            (omega (arith, c.1, thousand_position)) (most_itself v z pos s)

    -- and every component is mapped to its whole part
    pub left_mapped : (i : Component) → mapped_of peak x (position_of M) i ≡ x i
    unfolding bent_of
    left_mapped i = go (dec_le 1 M)
      where
        go : Dec (1 ≤ M) → mapped_of peak x (position_of M) i ≡ x i
        go (yes h) =
            unmapped (x i) M (mapped_of peak x (position_of M) i) h (rw (stays peak M c) at ((ratio_kept peak x (position_of M) h).floors i))
        go (no h) = mapped_of_none peak x (position_of M) (omega arith) i ∙ omega (arith, each_le x i)
