-- Lights v / z in units, of which the engine takes the whole parts: they lie from those to the next units.
use mathlib.Core.Path.{◌≡◌, sym, subst}
use Prim.Native.Nat.{ℕ, ◌+◌, ◌*◌, ◌/◌, ◌≤◌, ◌<◌}
use native.Mathlib.Nat.{zero-lt-suc}
use native.Mathlib.Omega.{arith}
use lib.Dec.{lit≤}
use Rattle.laws.specs.Fraction.{over}
use Rattle.laws.specs.Side.{Side, low, high}
use Rattle.laws.proofs.SideLaws.{at_refl}
use Rattle.laws.proofs.DivisionLaws.{floor_le, lt_floor, floor_grows}
use Rattle.quantity.specs.Component.{Component, Pixel, brightest}
use Rattle.quantity.proofs.ComponentLaws.{brightest_of}
use Rattle.exact.specs.ExactValue.{of_lights}
use Rattle.distance.proofs.NearLaws.{Rounding, end, around}

abbrev pub wholes : Pixel → ℕ → Pixel
wholes v z i = v i / z

-- rounded down
abbrev pub whole_units : Rounding
whole_units = record { parts = 1; pos = zero-lt-suc 0; below = 0; above = 1; upward = lit≤ tt; narrow = lit≤ tt }

end_low : (n : ℕ) → end whole_units low n ≡ n
end_low n = omega arith

end_high : (n : ℕ) → end whole_units high n ≡ n + 1
end_high n = omega arith

module _ (v : Pixel) (z : ℕ) (pos : 0 < z) where
  pub brightest_whole : brightest (wholes v z) ≡ brightest v / z
  brightest_whole = brightest_of (λ n. n / z) (λ a b h. floor_grows a b z h) v

  pub whole_below : brightest (wholes v z) * z ≤ brightest v
  whole_below = subst (λ n. n * z ≤ brightest v) (sym brightest_whole) (floor_le (brightest v) z)

  pub whole_above : brightest v < (brightest (wholes v z) + 1) * z
  whole_above = subst (λ n. brightest v < (n + 1) * z) (sym brightest_whole) (lt_floor (brightest v) z pos)

  pub own_whole : (s : Side) (i : Component) → (of_lights v z pos).Own s i (around whole_units s (wholes v z i))
  own_whole low i = rw (end_low (wholes v z i)) (omega (arith, floor_le (v i) z))
  own_whole high i = rw (end_high (wholes v z i)) (omega (arith, lt_floor (v i) z pos))

  pub most_whole : (s : Side) → (of_lights v z pos).Most s (around whole_units s (brightest (wholes v z)))
  most_whole low = rw (end_low (brightest (wholes v z))) (omega (arith, whole_below))
  most_whole high = rw (end_high (brightest (wholes v z))) (omega (arith, whole_above))

  -- the brightest light is its own fraction
  pub most_itself : (s : Side) → (of_lights v z pos).Most s (over (brightest v) z pos)
  most_itself s = at_refl s _
