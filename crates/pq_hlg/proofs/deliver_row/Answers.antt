-- `pq_hlg::deliver_row` meets its contract: a tested span lies in the row and is put in its place.
use Rattle.std.proofs.Common.{◌≡◌, Ok, length, sym, arith}
use Rattle.rows.proofs.AnswerLaws.{Accepted}
use Rattle.ycbcr.specs.Delivery.{delivered}
use Rattle.pq_hlg.specs.Row.{row_answer}
use Rattle.pq_hlg.proofs.TestLaws.{peak_passed, row_accepted, row_converted}
use Rattle.pq_hlg.proofs.deliver_row.Goals as goal
use Rattle.pq_hlg.proofs.deliver_row.Goals.{In_ok-test_span}

-- the call is not refused
converted : (c : In_ok-test_span) → let a = c.args in
    row_answer a.source a.row.now (length a.dst.now) a.first a.end ≡ Ok tt
unfolding row_answer
converted c =
    let peak = peak_passed c.args.source.peak (sym c.in_ok-test_peak.ensures) in
    simp peak (sym (rw (c.of.ensures.0, c.of.ensures.1) at c.in_ok-test_span.ensures))

tested : (c : In_ok-test_span) → let a = c.args in
    Accepted a.row.now (length a.dst.now) a.first a.end
tested c = (row_accepted _ _ _ _ _ (converted c)).1

pub returns : goal.returns
returns c =
    let e = converted (goal.at.returns c).In_ok-test_span in
    let k = tested (goal.at.returns c).In_ok-test_span in
    (sym e, row_converted (delivered c.args.format) _ _ _ _ _ _ _ e c.convert_span.ensures (omega arith))

pub overflow_mul-first : goal.overflow_mul-first
overflow_mul-first c = let k = tested (goal.at.overflow_mul-first c).In_ok-test_span in record { fits = omega arith }

pub overflow_mul-first-2 : goal.overflow_mul-first-2
overflow_mul-first-2 c = let k = tested (goal.at.overflow_mul-first-2 c).In_ok-test_span in record { fits = omega arith }

pub overflow_mul-end : goal.overflow_mul-end
overflow_mul-end c = let k = tested (goal.at.overflow_mul-end c).In_ok-test_span in record { fits = omega arith }

pub slice_bounds-convert_span-count : goal.slice_bounds-convert_span-count
slice_bounds-convert_span-count c = let k = tested (goal.at.slice_bounds-convert_span-count c).In_ok-test_span in omega arith

pub slice_bounds-convert_span-start : goal.slice_bounds-convert_span-start
slice_bounds-convert_span-start c = let k = tested (goal.at.slice_bounds-convert_span-start c).In_ok-test_span in omega arith

pub slice_bounds-convert_span-count-2 : goal.slice_bounds-convert_span-count-2
slice_bounds-convert_span-count-2 c = let k = tested (goal.at.slice_bounds-convert_span-count-2 c).In_ok-test_span in omega arith

pub slice_bounds-convert_span-start-2 : goal.slice_bounds-convert_span-start-2
slice_bounds-convert_span-start-2 c = let k = tested (goal.at.slice_bounds-convert_span-start-2 c).In_ok-test_span in omega arith

pub slice_bounds-convert_span-end-2 : goal.slice_bounds-convert_span-end-2
slice_bounds-convert_span-end-2 c = let k = tested (goal.at.slice_bounds-convert_span-end-2 c).In_ok-test_span in omega arith
