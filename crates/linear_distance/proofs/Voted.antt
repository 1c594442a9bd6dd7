-- What holds of every linear pixel under every peak: the distances of lights that are given themselves, at the values as they count.
use Prim.Native.Nat.{ℕ, ◌*◌, ◌^◌, ◌≤◌}
use native.Mathlib.Omega.{arith}
use lib.Pow.{pow_pos}
use Rattle.laws.specs.Fraction.{Fraction}
use Rattle.laws.proofs.DivisionLaws.{floor_grows}
use Rattle.quantity.specs.Units.{ten_thousand}
use Rattle.quantity.specs.Component.{Component, red, green, blue, Pixel, brightest}
use Rattle.pixel.proofs.PixelLaws.{lights_mapped_at_most}
use Rattle.pixel.proofs.OrderLaws.{ordered_of}
use Rattle.distance.specs.Demand.{LessThan, AtMost}
use Rattle.distance.proofs.PixelDistance.{wider}
use Rattle.linear_light.specs.LinearLight.{exact_light, whole_light}
use Rattle.linear_light.specs.Conversion.{Values, lights_of, position_of_brightest, linear_mapped, linear_code}
use Rattle.linear_light.proofs.ValueLaws.{exact_at_most}
use Rattle.linear_distance.specs.Demand.{VotedLinear, LinearDemand}
use Rattle.linear_distance.proofs.Theorem.{nearer, throughout}

abbrev exact : Values → Pixel
exact p i = exact_light (p i)

largest : (v : Pixel) (n : ℕ) → ((i : Component) → v i ≤ n) → brightest v ≤ n
largest v n h = omega (arith, h red, h green, h blue)

cap : (p : Values) → brightest (exact p) ≤ ten_thousand * 2 ^ 149
cap p = largest (exact p) (ten_thousand * 2 ^ 149) (λ i. exact_at_most (p i))

four : (d : ℕ) (g : Fraction) → AtMost 3 2 d g → LessThan 4 d g
four d g h = omega (arith, h, g.pos)

pub voted : (peak : ℕ) (p : Values) → peak ≤ 10000 → VotedLinear peak p
unfolding linear_code linear_mapped whole_light
voted peak p most =
    let all = throughout (exact p) (2 ^ 149) (pow_pos 149) (cap p) peak most in
    record {
      near = λ i. wider (four (linear_code peak p i)) (all i);
      nearer = nearer (exact p) (2 ^ 149) (pow_pos 149) (cap p) peak most;
      throughout = all;
      capped = lights_mapped_at_most peak (lights_of p);
      ordered = λ i j h. ordered_of peak (lights_of p) (position_of_brightest p) i j (floor_grows (exact p i) (exact p j) (2 ^ 149) h);
    }

pub demand : LinearDemand
unfolding LinearDemand
demand peak some most p = voted peak p most
