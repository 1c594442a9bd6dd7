-- The PQ signal of every whole peak from 1,001 to 10,000 cd/m2, and that of 1,000 cd/m2, lie near their positions.
use mathlib.Core.Path.{sym, subst}
use Prim.Native.Nat.{ℕ, ◌*◌, ◌≤◌, ◌<◌}
use native.Mathlib.Decide.{dec_le}
use native.Mathlib.Omega.{arith}
use Rattle.laws.specs.Fraction.{whole}
use Rattle.quantity.specs.Units.{units, thousand, ten_thousand, last_position}
use Rattle.pq.specs.Pq.{ratio_num, ratio_den, ValueAtMost, ValueAtLeast, position_signal}
use Rattle.pq.proofs.PqTests.{at_most_test→, above_test→}
use Rattle.pq.proofs.PqLaws.{at_least_of_above}
use Rattle.position.specs.Position.{position_of}
use Rattle.position.proofs.PeakLaws.{ten_thousand_position}
use Rattle.peaks.proofs.PeakTests.{Between}
use Rattle.peaks.proofs.PeakWalk.{Peaks, chunk, join}
use Rattle.peaks.proofs.PeaksPass.{from_1001, from_2004, from_3011, from_4015, from_5019, from_6035, from_7051, from_8070, from_9092}

below_top : Peaks 1001 10000
below_top =
    join 1001 2004 10000 (chunk 2634 267 1001 2004 from_1001)
    (join 2004 3011 10000 (chunk 2900 156 2004 3011 from_2004)
    (join 3011 4015 10000 (chunk 3055 110 3011 4015 from_3011)
    (join 4015 5019 10000 (chunk 3164 85 4015 5019 from_4015)
    (join 5019 6035 10000 (chunk 3248 70 5019 6035 from_5019)
    (join 6035 7051 10000 (chunk 3317 59 6035 7051 from_6035)
    (join 7051 8070 10000 (chunk 3375 51 7051 8070 from_7051)
    (join 8070 9092 10000 (chunk 3425 45 8070 9092 from_8070)
    (chunk 3469 36 9092 10000 from_9092))))))))

-- 10,000 cd/m2, the end of the table
at_top : Between ten_thousand 897024
unfolding units ten_thousand ratio_num ratio_den
at_top =
    record {
      low = at_least_of_above (above_test→ (whole ten_thousand) (position_signal 897023) 18446742974197923840 64 64 tt);
      high = at_most_test→ (whole ten_thousand) (position_signal 897026) 18446745173221179392 64 64 tt;
    }

top_peak : Between (10000 * units) (position_of (10000 * units))
unfolding ten_thousand last_position
top_peak = subst (Between ten_thousand) (sym ten_thousand_position) at_top

pub peak_between : (peak : ℕ) → 1000 < peak → peak ≤ 10000 → Between (peak * units) (position_of (peak * units))
peak_between peak l h = go (dec_le 10000 peak)
  where
    go : Dec (10000 ≤ peak) → Between (peak * units) (position_of (peak * units))
    go (yes r) = subst (λ (n : ℕ). Between (n * units) (position_of (n * units))) (omega arith) top_peak
    go (no r) = below_top peak l (omega arith)

-- 1,000 cd/m2: its signal lies from position 674,406 to the next
pub thousand_low : ValueAtLeast (whole thousand) (position_signal 674406)
unfolding thousand units ten_thousand ratio_num ratio_den
thousand_low = at_least_of_above (above_test→ (whole thousand) (position_signal 674406) 12782563671641575007 64 67 tt)

pub thousand_high : ValueAtMost (whole thousand) (position_signal 674407)
unfolding thousand units ten_thousand ratio_num ratio_den
thousand_high = at_most_test→ (whole thousand) (position_signal 674407) 12782563671643672159 64 67 tt
