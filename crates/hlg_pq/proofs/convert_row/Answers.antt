-- `hlg_pq::convert_row` meets its contract: a tested span lies in the row and is put in its place.
use Rattle.std.proofs.Common.{◌≡◌, Ok, length, sym, arith}
use Rattle.rows.proofs.AnswerLaws.{Accepted, accepted, converted_after}
use Rattle.return_pixel.specs.Conversion.{pq_codes}
use Rattle.hlg_pq.specs.Pixel.{hlg_refused}
use Rattle.hlg_pq.specs.Row.{row_answer}
use Rattle.hlg_pq.proofs.convert_row.Goals as goal
use Rattle.hlg_pq.proofs.convert_row.Goals.{In_ok-test_span}

-- the call is not refused
converted : (c : In_ok-test_span) → let a = c.args in
    row_answer a.row.now (length a.dst.now) a.first a.end ≡ Ok tt
converted c = sym c.in_ok-test_span.ensures

tested : (c : In_ok-test_span) → let a = c.args in
    Accepted a.row.now (length a.dst.now) a.first a.end
tested c = accepted hlg_refused _ _ _ _ (converted c)

pub returns : goal.returns
returns c =
    let taken = (goal.at.returns c).In_ok-test_span in (
      sym (converted taken),
      converted_after pq_codes _ _ _ _ _ _ (converted taken) (tested taken) (omega arith) c.convert_span.ensures,
    )

pub overflow_mul-first : goal.overflow_mul-first
overflow_mul-first c = let k = tested (goal.at.overflow_mul-first c).In_ok-test_span in record { fits = omega arith }

pub overflow_mul-first-2 : goal.overflow_mul-first-2
overflow_mul-first-2 c = let k = tested (goal.at.overflow_mul-first-2 c).In_ok-test_span in record { fits = omega arith }

pub overflow_mul-end : goal.overflow_mul-end
overflow_mul-end c = let k = tested (goal.at.overflow_mul-end c).In_ok-test_span in record { fits = omega arith }

pub slice_bounds-convert_span-count : goal.slice_bounds-convert_span-count
slice_bounds-convert_span-count c = let k = tested (goal.at.slice_bounds-convert_span-count c).In_ok-test_span in omega arith

pub slice_bounds-convert_span-start : goal.slice_bounds-convert_span-start
slice_bounds-convert_span-start c = let k = tested (goal.at.slice_bounds-convert_span-start c).In_ok-test_span in omega arith

pub slice_bounds-convert_span-count-2 : goal.slice_bounds-convert_span-count-2
slice_bounds-convert_span-count-2 c = let k = tested (goal.at.slice_bounds-convert_span-count-2 c).In_ok-test_span in omega arith

pub slice_bounds-convert_span-start-2 : goal.slice_bounds-convert_span-start-2
slice_bounds-convert_span-start-2 c = let k = tested (goal.at.slice_bounds-convert_span-start-2 c).In_ok-test_span in omega arith

pub slice_bounds-convert_span-end-2 : goal.slice_bounds-convert_span-end-2
slice_bounds-convert_span-end-2 c = let k = tested (goal.at.slice_bounds-convert_span-end-2 c).In_ok-test_span in omega arith
