-- A test of the light at the position of a full-range code against the PQ formula, with witnesses between the hints of its cell's two entries; and what
-- a passed test gives. Lights in units, positions in 1/897,024.
use mathlib.Core.Bool.{Bool, ◌&&◌}
use Prim.Native.Nat.{ℕ, min, ◌+◌, ◌-◌, ◌*◌, ◌/◌, ◌%◌, ◌^◌}
use lib.Dec.{T}
use lib.Ieee.Fits.{and_l, and_r}
use Rattle.laws.specs.Fraction.{whole}
use Rattle.laws.specs.Side.{Side, low, high}
use Rattle.pq.specs.Pq.{ValueAtMost, ValueAtLeast, position_signal}
use Rattle.pq.proofs.PqTests.{at_most_test, at_most_test→, above_test, above_test→, Hint, hint}
use Rattle.pq.proofs.PqLaws.{at_least_of_above}
use Rattle.pq.proofs.CellWalk.{PlaceTest, every_place}
use Rattle.position.proofs.LightLaws.{light_in}
use Rattle.full_range.proofs.FoundNumbers.{light_part, units_below, units_above}

-- what encloses a light l; black, which has none, on both sides by itself
abbrev pub less : ℕ → ℕ
less l = l - (l / light_part + units_below)

abbrev pub more : ℕ → ℕ
more l = l + l / light_part + units_above * min l 1

abbrev pub beside : Side → ℕ → ℕ
beside low = less
beside high = more

-- so enclosed, l holds the light of every signal from the position q to the next
pub record Held (l q : ℕ) : Type 0 where
  pub below : ValueAtMost (whole (less l)) (position_signal q)
  pub above : ValueAtLeast (whole (more l)) (position_signal (q + 1))

abbrev pub holds : ℕ → ℕ → Hint → Hint → Bool
holds l q (hint a b j) (hint c d i) = at_most_test (less l) 1 q 897024 a b j && above_test (more l) 1 (q + 1) 897024 c d i

pub holds→ : (l q : ℕ) (g h : Hint) → T (holds l q g h) → Held l q
holds→ l q (hint a b j) (hint c d i) t =
    let x = at_most_test (less l) 1 q 897024 a b j in
    let y = above_test (more l) 1 (q + 1) 897024 c d i in
    record {
      below = at_most_test→ (whole (less l)) (position_signal q) a b j (and_l x y t);
      above = at_least_of_above (above_test→ (whole (more l)) (position_signal (q + 1)) c d i (and_r x y t));
    }

-- the position of the code n of a depth whose last code is top, and the first code whose position is in the cell k or past it
abbrev pub place : ℕ → ℕ → ℕ
place top n = 897024 * n / top

abbrev pub first_in : ℕ → ℕ → ℕ
first_in top k = (k * top + 3503) / 3504

-- witnesses f / 256 of the way from a to a + s, in 1 / 2 ^ b: below less its 2^16th, above with its 2^15th more, since w is no straight line
abbrev under : ℕ → ℕ → ℕ → ℕ → ℕ → Hint
under a s b j f = let x = a + s * f / 256 in hint (x - x / 2 ^ 16) b j

abbrev over : ℕ → ℕ → ℕ → ℕ → ℕ → Hint
over a s b j f = let x = a + s * f / 256 in hint (x + x / 2 ^ 15) b j

abbrev pub one : ℕ → PlaceTest
one top p r a s b j n = let q = place top n in holds (light_in p r q) q (under a s b j (q % 256)) (over a s b j (q % 256 + 1))

pub one→ : (top p r a s b j n : ℕ) → T (one top p r a s b j n) → Held (light_in p r (place top n)) (place top n)
one→ top p r a s b j n t = let q = place top n in holds→ (light_in p r q) q (under a s b j (q % 256)) (over a s b j (q % 256 + 1)) t

-- every code whose position is in a cell between c entries of the light table from k on
abbrev pub every_code : (top k c : ℕ) → Bool
every_code top = every_place (first_in top) (one top)
