-- `pq_hlg::linear::convert_linear_row` meets its contract: a tested span lies in the row and is put in its place.
use Rattle.std.proofs.Common.{◌≡◌, Ok, length, sym, arith}
use Rattle.rows.proofs.ElementLaws.{AcceptedElements}
use Rattle.pq_hlg.specs.Linear.{linear_row_answer}
use Rattle.pq_hlg.proofs.TestLaws.{peak_passed}
use Rattle.pq_hlg.proofs.LinearLaws.{accepted, converted_row}
use Rattle.pq_hlg.proofs.linear.convert_linear_row.Goals as goal
use Rattle.pq_hlg.proofs.linear.convert_linear_row.Goals.{In_ok-test_linear_span}

-- the call is not refused
converted : (c : In_ok-test_linear_span) → let a = c.args in
    linear_row_answer a.peak a.row.now (length a.dst.now) a.first a.end ≡ Ok tt
unfolding linear_row_answer
converted c = let peak = peak_passed c.args.peak (sym c.in_ok-test_peak.ensures) in simp peak (sym c.in_ok-test_linear_span.ensures)

tested : (c : In_ok-test_linear_span) → let a = c.args in
    AcceptedElements (length a.row.now) (length a.dst.now) a.first a.end
tested c = (accepted _ _ _ _ _ (converted c)).1

pub returns : goal.returns
returns c =
    let e = converted (goal.at.returns c).In_ok-test_linear_span in
    (sym e, converted_row _ _ _ _ _ _ _ e c.convert_linear_span.ensures (omega arith))

pub overflow_mul-first : goal.overflow_mul-first
overflow_mul-first c = let k = tested (goal.at.overflow_mul-first c).In_ok-test_linear_span in record { fits = omega arith }

pub overflow_mul-first-2 : goal.overflow_mul-first-2
overflow_mul-first-2 c = let k = tested (goal.at.overflow_mul-first-2 c).In_ok-test_linear_span in record { fits = omega arith }

pub overflow_mul-end : goal.overflow_mul-end
overflow_mul-end c = let k = tested (goal.at.overflow_mul-end c).In_ok-test_linear_span in record { fits = omega arith }

pub slice_bounds-convert_linear_span-count : goal.slice_bounds-convert_linear_span-count
slice_bounds-convert_linear_span-count c = let k = tested (goal.at.slice_bounds-convert_linear_span-count c).In_ok-test_linear_span in omega arith

pub slice_bounds-convert_linear_span-start : goal.slice_bounds-convert_linear_span-start
slice_bounds-convert_linear_span-start c = let k = tested (goal.at.slice_bounds-convert_linear_span-start c).In_ok-test_linear_span in omega arith

pub slice_bounds-convert_linear_span-count-2 : goal.slice_bounds-convert_linear_span-count-2
slice_bounds-convert_linear_span-count-2 c = let k = tested (goal.at.slice_bounds-convert_linear_span-count-2 c).In_ok-test_linear_span in omega arith

pub slice_bounds-convert_linear_span-start-2 : goal.slice_bounds-convert_linear_span-start-2
slice_bounds-convert_linear_span-start-2 c = let k = tested (goal.at.slice_bounds-convert_linear_span-start-2 c).In_ok-test_linear_span in omega arith

pub slice_bounds-convert_linear_span-end-2 : goal.slice_bounds-convert_linear_span-end-2
slice_bounds-convert_linear_span-end-2 c = let k = tested (goal.at.slice_bounds-convert_linear_span-end-2 c).In_ok-test_linear_span in omega arith

pub offset_bounds-row-first : goal.offset_bounds-row-first
offset_bounds-row-first c = let k = tested (goal.at.offset_bounds-row-first c).In_ok-test_linear_span in record { fits = omega arith }
