-- The distances of linear pixels (request 11; demand 3): how far HLG codes lie from their exact values, and in which order they stand. The lights of the
-- exact value are the values as they count, unrounded.
use Rattle.std.specs.Prelude.{◌⊎◌, ℕ, ◌+◌, ◌*◌, ◌^◌, ◌≤◌}
use Rattle.std.proofs.Common.{pow_pos}
use Rattle.quantity.specs.Units.{units, thousand}
use Rattle.quantity.specs.Component.{Component}
use Rattle.position.specs.Position.{position_of}
use Rattle.exact.specs.ExactValue.{Given, of_lights}
use Rattle.distance.specs.Demand.{LessThan, AtMost, Enclosed}
use Rattle.linear_light.specs.LinearLight.{exact_light}
use Rattle.linear_light.specs.Conversion.{Values, position_of_brightest, linear_mapped, linear_code}

-- what a linear pixel gives: its lights, unrounded, in 1/2^149 of a unit
abbrev pub of_values : Values → Given
of_values p = of_lights (λ i. exact_light (p i)) (2 ^ 149) (pow_pos 149)

-- the brightest light lies a whole code or more under the knee: 2m + 2,048 ≤ 3t − w
abbrev pub BelowKnee : ℕ → Values → Type 0
BelowKnee peak p = 2 * position_of_brightest p + 2048 + position_of (peak * units) ≤ 3 * position_of thousand

-- what holds of one peak and one pixel
pub record VotedLinear (peak : ℕ) (p : Values) : Type 0 where
  -- each code is less than four codes away from its exact value
  pub near : (i : Component) → Enclosed (of_values p) peak i (LessThan 4 (linear_code peak p i))
  -- and at most 9/16 of a code where the curve does not bend, or not yet
  pub nearer : (peak ≤ 1000) ⊎ BelowKnee peak p → (i : Component) → Enclosed (of_values p) peak i (AtMost 9 16 (linear_code peak p i))
  -- and throughout at most one and a half codes
  pub throughout : (i : Component) → Enclosed (of_values p) peak i (AtMost 3 2 (linear_code peak p i))
  -- no mapped component exceeds 1,000 cd/m2
  pub capped : (i : Component) → linear_mapped peak p i ≤ thousand
  -- a value that counts as at least as much light as another gives a mapped component and a code at least as large
  pub ordered : (i j : Component) → exact_light (p i) ≤ exact_light (p j)
      → (linear_mapped peak p i ≤ linear_mapped peak p j) × (linear_code peak p i ≤ linear_code peak p j)

-- for every peak from 1 to 10,000 and every three values
unfoldable pub LinearDemand : Type 0
LinearDemand = (peak : ℕ) → 1 ≤ peak → peak ≤ 10000 → (p : Values) → VotedLinear peak p
