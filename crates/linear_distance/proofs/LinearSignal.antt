-- X, the PQ signal of a light that is given itself, by entries of the light table: at most two cells past the cell of its whole part; and where cells
-- rise a unit a position, from a cell before the position of the whole part to a cell and a position after it.
use mathlib.Core.Path.{◌≡◌, subst}
use Prim.Native.Nat.{ℕ, ◌+◌, ◌-◌, ◌*◌, ◌/◌, ◌≤◌, ◌<◌}
use native.Mathlib.Nat.{mul-le-mul_right}
use native.Mathlib.Decide.{dec_le}
use native.Mathlib.Omega.{arith}
use lib.Dec.{lit<, lit≤}
use Rattle.laws.specs.Fraction.{over, whole}
use Rattle.quantity.specs.Units.{ten_thousand, last_position}
use Rattle.pq.specs.Pq.{ValueAtMost, ValueAtLeast, position_signal, lower_end, upper_end}
use Rattle.pq.specs.LightTable.{light_entry}
use Rattle.pq.proofs.PqLaws.{at_most_signal_lem, at_most_light, at_least_signal, at_least_light, at_least_of_above}
use Rattle.pq.proofs.EntryLaws.{entry_at_most, entry_above, entries_grow_strictly}
use Rattle.position.specs.Position.{position_of}
use Rattle.position.proofs.LightLaws.{light_grows, light_at_entry}
use Rattle.position.proofs.PositionLaws.{next_light, position_is}
use Rattle.position.proofs.PeakLaws.{ten_thousand_position}
use Rattle.peaks.proofs.PeakSignals.{peak_between}
use Rattle.distance.proofs.BentLightTests.{in_cell_lem}
use Rattle.linear_distance.proofs.FoundNumbers.{least_unleft}
use Rattle.linear_distance.proofs.LinearTests.{steep_at}

-- the light B / z lies from M to M + 1
module _ (B z : ℕ) (pos : 0 < z) (M : ℕ) (below : M * z ≤ B) (above : B < (M + 1) * z) where
  abbrev m : ℕ
  m = position_of M

  abbrev k : ℕ
  k = m / 256

  -- so an entry a unit away from both is on its side of it
  past_entry : (j q : ℕ) → j ≤ 3504 → q ≤ 256 * j → light_entry j < M → ValueAtLeast (over B z pos) (position_signal q)
  past_entry j q h g e =
      let f : 2 * light_entry j + 1 ≤ 2 * M = omega arith in
      at_least_light {l = upper_end (light_entry j)} {k = over B z pos} (at_least_signal (at_least_of_above (entry_above j h)) (record { cross = omega arith }))
      (record { cross = omega (arith, below, mul-le-mul_right z f) })

  short_of_entry : (j q : ℕ) → 0 < j → j ≤ 3504 → 256 * j ≤ q → M + 1 < light_entry j → ValueAtMost (over B z pos) (position_signal q)
  short_of_entry j q p h g e =
      let f : 2 * (M + 1) ≤ 2 * light_entry j - 1 = omega arith in
      at_most_light {l = lower_end (light_entry j)} {k = over B z pos} (at_most_signal_lem (entry_at_most j p h) (record { cross = omega arith }))
      (record { cross = omega (arith, above, mul-le-mul_right z f) })

  range : m ≤ 897024
  unfolding last_position
  range = (position_is M).range

  from_entry : light_entry k ≤ M
  from_entry = omega (arith, light_grows (256 * k) m (omega arith), light_at_entry k, (position_is M).reached)

  to_entry : m < 897024 → M < light_entry (k + 1)
  unfolding last_position
  to_entry h = omega (arith, next_light M h, light_grows (m + 1) (256 * (k + 1)) (omega arith), light_at_entry (k + 1))

  pub signal_under : k + 2 ≤ 3504 → ValueAtMost (over B z pos) (position_signal (256 * (k + 2)))
  signal_under h =
      short_of_entry (k + 2) (256 * (k + 2)) (omega arith) h (omega arith)
      (omega (arith, to_entry (omega arith), entries_grow_strictly (k + 1) (k + 2) (omega arith) h))

  -- ---- where cells rise a unit a position, an entry that is M has its position, and M one short of the next the cell's last
  module _ (from : least_unleft ≤ m) where
    at_first : M ≤ light_entry k → m ≡ 256 * k
    at_first h = go (dec_le (256 * k + 1) m)
      where
        go : Dec (256 * k + 1 ≤ m) → m ≡ 256 * k
        go (yes a) =
            let rises = steep_at k (omega arith) (omega (arith, range)) in
            let second = in_cell_lem (256 * k + 1) k 1 (omega arith) (lit< tt) in
            absurd (omega (arith, rises, second, light_grows (256 * k + 1) m a, (position_is M).reached))
        go (no a) = omega arith

    at_last : m < 897024 → light_entry (k + 1) ≤ M + 1 → 256 * k + 255 ≤ m
    unfolding last_position
    at_last top h =
        let last = in_cell_lem (256 * k + 255) k 255 (omega arith) (lit< tt) in
        (position_is M).largest (256 * k + 255) (omega arith) (omega (arith, last, steep_at k (omega arith) (omega arith)))

    pub signal_from : ValueAtLeast (over B z pos) (position_signal (m - 256))
    signal_from = go (dec_le (light_entry k + 1) M)
      where
        go : Dec (light_entry k + 1 ≤ M) → ValueAtLeast (over B z pos) (position_signal (m - 256))
        go (yes a) = past_entry k (m - 256) (omega (arith, range)) (omega arith) (omega arith)
        go (no a) =
            let first = at_first (omega arith) in
            let grows = entries_grow_strictly (k - 1) k (omega arith) (omega (arith, range)) in
            past_entry (k - 1) (m - 256) (omega (arith, range)) (omega (arith, first)) (omega (arith, from_entry, grows))

    -- up to 10,000 cd/m2
    top_value : ValueAtMost (whole ten_thousand) (position_signal 897026)
    unfolding ten_thousand last_position
    top_value =
        subst (λ q. ValueAtMost (whole ten_thousand) (position_signal (q + 2))) ten_thousand_position (peak_between 10000 (lit< tt) (lit≤ tt)).high

    pub signal_to : B ≤ ten_thousand * z → ValueAtMost (over B z pos) (position_signal (m + 257))
    signal_to cap = go (dec_le 896769 m) (dec_le (M + 2) (light_entry (k + 1)))
      where
        go : Dec (896769 ≤ m) → Dec (M + 2 ≤ light_entry (k + 1)) → ValueAtMost (over B z pos) (position_signal (m + 257))
        go (yes a) b =
            at_most_light {l = whole ten_thousand} {k = over B z pos} (at_most_signal_lem top_value (record { cross = omega arith }))
            (record { cross = omega (arith, cap) })
        go (no a) (yes b) = short_of_entry (k + 1) (m + 257) (omega arith) (omega arith) (omega arith) (omega arith)
        go (no a) (no b) =
            let last = at_last (omega arith) (omega arith) in
            let grows = entries_grow_strictly (k + 1) (k + 2) (omega arith) (omega arith) in
            short_of_entry (k + 2) (m + 257) (omega arith) (omega arith) (omega (arith, last)) (omega (arith, to_entry (omega arith), grows))
