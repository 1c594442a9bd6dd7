-- Tests computed over the tables for lights that are given themselves: cells of the light table that rise a unit a position, and slowly where light is
-- bent; the room that whole units take at the HLG steps.
use mathlib.Core.Path.{◌≡◌, ◌∙◌, ap, subst₂}
use mathlib.Core.Bool.{Bool}
use mathlib.Core.List.{List}
use Prim.Native.Nat.{ℕ, suc, min, ◌+◌, ◌-◌, ◌*◌, ◌^◌, ◌≤◌, ◌<◌}
use native.Mathlib.Omega.{arith}
use lib.Dec.{T, leb, leb→le, lit≤}
use lib.ListN.{length, get_or, take, drop, length-take, length-drop}
use Rattle.laws.proofs.ComputedTests.{every, every_in, every_pair, at_pair}
use Rattle.pq.specs.LightTable.{light_table, light_entry}
use Rattle.pq.proofs.EntryLaws.{table_length, part_at}
use Rattle.position.specs.Position.{light_at}
use Rattle.bent_lights.proofs.FoundNumbers.{first_point_cell, last_point_cell}
use Rattle.hlg_steps.specs.StepTable.{step_table}
use Rattle.hlg.proofs.CancelledLaws.{C, K}
use Rattle.distance.proofs.FoundNumbers.{room_above, room_below, full_ratio_under, full_ratio_over}
use Rattle.distance.proofs.StepTests.{add_high, add_low}
use Rattle.distance.proofs.StepLaws.{at_step, two, Room}
use Rattle.distance.proofs.BentLightTests.{slow, slow_over}
use Rattle.linear_distance.proofs.FoundNumbers.{lit_units_luminance, unit_slope, steep_cell, linear_reach}

-- ---- cells of the light table
-- entries from the first steep cell on
abbrev upper : List ℕ
upper = take (3505 - steep_cell) (drop steep_cell light_table)

-- an entry and the next
abbrev steep : ℕ → ℕ → Bool
steep p r = leb (p + 256) r

all_steep : T (every_pair steep upper)
unfolding light_table
all_steep = tt

pub steep_at : (k : ℕ) → steep_cell ≤ k → k < 3504 → light_entry k + 256 ≤ light_entry (k + 1)
steep_at k h g =
    let i = k - steep_cell in
    let size : length upper ≡ min (3505 - steep_cell) (length light_table - steep_cell) = simp (length-take, length-drop) in
    let this : get_or upper i 0 ≡ light_entry k = part_at steep_cell (3505 - steep_cell) i (omega (arith, size, table_length)) ∙ ap light_entry (omega arith) in
    let next : get_or upper (suc i) 0 ≡ light_entry (k + 1) = part_at steep_cell (3505 - steep_cell) (suc i) (omega (arith, size, table_length))
    ∙ ap light_entry (omega arith) in
    subst₂ (λ p r. p + 256 ≤ r) this next (leb→le _ _ (at_pair steep upper all_steep i (omega (arith, size, table_length))))

all_slow : T (every_in (slow full_ratio_under linear_reach 2) first_point_cell (last_point_cell + 1 - first_point_cell))
unfolding light_entry light_table
all_slow = tt

pub slow_light : (q : ℕ) → 256 * first_point_cell ≤ q → q < 256 * (last_point_cell + 1)
    → full_ratio_under * light_at (q + linear_reach) ≤ full_ratio_over * light_at q
slow_light = slow_over full_ratio_under linear_reach 2 first_point_cell (last_point_cell + 1 - first_point_cell) all_slow (lit≤ tt)

-- ---- a result lies a unit above its mapped number at most, and not below, the luminance 10,000 ten-thousandths above and not below
adds_high : T (every (add_high 1 0 lit_units_luminance unit_slope room_above) 0 step_table)
unfolding step_table
adds_high = tt

adds_low : T (every (add_low 0 10000 lit_units_luminance unit_slope room_below) 0 step_table)
unfolding step_table
adds_low = tt

enough : C ≤ unit_slope ^ 6 * K * lit_units_luminance
unfolding C K
enough = lit≤ tt

pub unit_room : Room 1 0 0 10000 lit_units_luminance room_above room_below
unit_room =
    record {
      v = unit_slope;
      v' = unit_slope;
      some = lit≤ tt;
      slope_high = enough;
      slope_low = enough;
      high = λ c h. two _ _ _ _ (at_step (add_high 1 0 lit_units_luminance unit_slope room_above) adds_high c h);
      low = λ c h. two _ _ _ _ (at_step (add_low 0 10000 lit_units_luminance unit_slope room_below) adds_low c h);
    }
