-- Every position among the points has the light of a point shortly before it as a lower light of its signal, and that of one shortly after it as an
-- upper one.
use Prim.Native.Nat.{ℕ, ◌+◌, ◌-◌, ◌*◌, ◌/◌, ◌≤◌, ◌<◌}
use native.Mathlib.Decide.{dec_le}
use native.Mathlib.Omega.{arith}
use lib.Dec.{T, lit≤}
use Rattle.laws.specs.Fraction.{whole}
use Rattle.pq.specs.Pq.{ValueAtMost, ValueAtLeast, position_signal}
use Rattle.pq.proofs.PqLaws.{at_most_signal_lem, at_least_signal}
use Rattle.pq.proofs.CellWalk.{place_tested}
use Rattle.position.specs.Position.{light_at}
use Rattle.bent_lights.proofs.FoundNumbers.{points_apart, first_point_cell, last_point_cell}
use Rattle.bent_lights.proofs.PointTests.{Point, point_at, first_in, one, one→, every_point}
use Rattle.bent_lights.proofs.PointsPass.{middle_cell, points_below, points_above}

walked : (k c : ℕ) → k + c ≤ 3505 → T (every_point k c) → (i : ℕ) → k ≤ point_at i / 256 → point_at i / 256 + 1 < k + c
    → Point (light_at (point_at i)) (point_at i)
unfolding light_at
walked k c h t i from to =
    let x = place_tested first_in one k c h t (point_at i / 256) i from to (omega arith) (omega arith) in
    one→ _ _ x.a x.s x.b x.i i x.passed

-- the last point before a position q, and the first one after it
abbrev pub point_before : ℕ → ℕ
point_before q = point_at ((q - 1) / points_apart)

abbrev pub point_after : ℕ → ℕ
point_after q = point_at (q / points_apart + 1)

-- their lights enclose the light of the position's signal
pub record Held (q : ℕ) : Type 0 where
  pub below : ValueAtMost (whole (light_at (point_before q))) (position_signal q)
  pub above : ValueAtLeast (whole (light_at (point_after q))) (position_signal q)

pub held : (q : ℕ) → 256 * first_point_cell + points_apart ≤ q → q + points_apart < 256 * (last_point_cell + 1) → Held q
held q from to =
    record {
      below = at_most_signal_lem (point ((q - 1) / points_apart) (omega arith) (omega arith)).high (record { cross = omega arith });
      above = at_least_signal (point (q / points_apart + 1) (omega arith) (omega arith)).low (record { cross = omega arith });
    }
  where
    point : (i : ℕ) → 256 * first_point_cell ≤ point_at i → point_at i < 256 * (last_point_cell + 1) → Point (light_at (point_at i)) (point_at i)
    point i from to = go (dec_le middle_cell (point_at i / 256))
      where
        go : Dec (middle_cell ≤ point_at i / 256) → Point (light_at (point_at i)) (point_at i)
        go (yes h) = walked middle_cell (last_point_cell + 2 - middle_cell) (lit≤ tt) points_above i h (omega arith)
        go (no h) = walked first_point_cell (middle_cell + 1 - first_point_cell) (lit≤ tt) points_below i (omega arith) (omega arith)
