-- Tests computed over the HLG steps for full range: the room that its units take, and its ratio.
use Prim.Native.Nat.{◌-◌, ◌*◌, ◌^◌, ◌≤◌}
use lib.Dec.{T, lit≤}
use Rattle.laws.proofs.ComputedTests.{every, every_pair}
use Rattle.hlg_steps.specs.StepTable.{step_table}
use Rattle.hlg.proofs.CancelledLaws.{C, K}
use Rattle.distance.proofs.FoundNumbers.{lit_luminance, full_result_above, full_result_below, full_luminance_below, full_luminance_above}
use Rattle.distance.proofs.FoundNumbers.{full_slope_above, full_slope_below, full_room_above, full_room_below, full_ratio_under, full_ratio_over}
use Rattle.distance.proofs.StepTests.{add_high, add_low, ratio}
use Rattle.distance.proofs.StepLaws.{at_step, two, Room}

adds_high : T (every (add_high full_result_above full_luminance_below lit_luminance full_slope_above full_room_above) 0 step_table)
unfolding step_table
adds_high = tt

adds_low : T (every (add_low full_result_below full_luminance_above lit_luminance full_slope_below full_room_below) 0 step_table)
unfolding step_table
adds_low = tt

pub full_ratios : T (every_pair (ratio full_ratio_under full_ratio_over full_room_above full_room_below) step_table)
unfolding step_table
full_ratios = tt

slope_above_lem : C ≤ full_slope_above ^ 6 * K * (lit_luminance - full_luminance_below)
unfolding C K
slope_above_lem = lit≤ tt

slope_below_lem : C ≤ full_slope_below ^ 6 * K * lit_luminance
unfolding C K
slope_below_lem = lit≤ tt

pub full_room : Room full_result_above full_luminance_below full_result_below full_luminance_above lit_luminance full_room_above full_room_below
full_room =
    record {
      v = full_slope_above;
      v' = full_slope_below;
      some = lit≤ tt;
      slope_high = slope_above_lem;
      slope_low = slope_below_lem;
      high = λ c h. two _ _ _ _ (at_step (add_high full_result_above full_luminance_below lit_luminance full_slope_above full_room_above) adds_high c h);
      low = λ c h. two _ _ _ _ (at_step (add_low full_result_below full_luminance_above lit_luminance full_slope_below full_room_below) adds_low c h);
    }
