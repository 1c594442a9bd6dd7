-- A test of the light at a point against the PQ formula, with witnesses between the hints of its cell's two entries; and what a passed test gives.
-- Lights in units, positions in 1/897,024.
use mathlib.Core.Bool.{Bool, ◌&&◌}
use Prim.Native.Nat.{ℕ, ◌+◌, ◌-◌, ◌*◌, ◌/◌, ◌%◌}
use lib.Dec.{T}
use lib.Ieee.Fits.{and_l, and_r}
use Rattle.laws.specs.Fraction.{whole}
use Rattle.pq.specs.Pq.{ValueAtMost, ValueAtLeast, position_signal}
use Rattle.pq.proofs.PqTests.{at_most_test, at_most_test→, above_test, above_test→}
use Rattle.pq.proofs.PqLaws.{at_least_of_above}
use Rattle.pq.proofs.CellWalk.{PlaceTest, every_place}
use Rattle.position.proofs.LightLaws.{light_in}
use Rattle.bent_lights.proofs.FoundNumbers.{points_apart}

-- the signal of the light l lies from the position before q to the one after it
pub record Point (l q : ℕ) : Type 0 where
  pub low : ValueAtLeast (whole l) (position_signal (q - 1))
  pub high : ValueAtMost (whole l) (position_signal (q + 1))

-- witnesses half a position before and after that f / 256 of the way from a to a + s
abbrev before : ℕ → ℕ → ℕ → ℕ
before a s f = a + s * f / 256 - s / 512

abbrev after : ℕ → ℕ → ℕ → ℕ
after a s f = a + s * f / 256 + s / 512

-- the point i, and the first one in the cell k or past it
abbrev pub point_at : ℕ → ℕ
point_at i = points_apart * i

abbrev pub first_in : ℕ → ℕ
first_in k = (256 * k + (points_apart - 1)) / points_apart

-- its light, in a cell from the entry p to r
abbrev point_light : ℕ → ℕ → ℕ → ℕ
point_light p r i = light_in p r (point_at i)

abbrev pub one : PlaceTest
one p r a s b j i =
    let q = point_at i in
    let l = point_light p r i in
    above_test l 1 (q - 1) 897024 (before a s (q % 256)) b j && at_most_test l 1 (q + 1) 897024 (after a s (q % 256)) b j

pub one→ : (p r a s b j i : ℕ) → T (one p r a s b j i) → Point (point_light p r i) (point_at i)
one→ p r a s b j i t =
    let q = point_at i in
    let l = point_light p r i in
    let x = above_test l 1 (q - 1) 897024 (before a s (q % 256)) b j in
    let y = at_most_test l 1 (q + 1) 897024 (after a s (q % 256)) b j in
    record {
      low = at_least_of_above (above_test→ (whole l) (position_signal (q - 1)) (before a s (q % 256)) b j (and_l x y t));
      high = at_most_test→ (whole l) (position_signal (q + 1)) (after a s (q % 256)) b j (and_r x y t);
    }

-- every point in a cell between c entries of the light table from k on
abbrev pub every_point : (k c : ℕ) → Bool
every_point = every_place first_in one
