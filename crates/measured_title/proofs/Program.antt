-- The program over lists, as `measure_title` has it, and that it prints a title's line. A read of n bytes gives the next n, or as many as there are; each
-- call of a function on slices stands as the definition that its contract promises. What is printed is one list.
use Prim.Native.Nat.{ℕ, zero, suc, ◌*◌, ◌-◌, ◌≤◌, ◌<◌}
use mathlib.Core.Bool.{cond}
use mathlib.Core.List.{List, [], ◌∷◌}
use mathlib.Core.Path.{◌≡◌, refl, sym, ap, ◌∙◌}
use native.Mathlib.Decide.{dec_lt}
use native.Mathlib.Omega.{arith}
use lib.Dec.{eqb}
use lib.ListN.{length, take, drop}
use borrow.Author.Tests.{ne_eqb}
use Rattle.std.specs.Prelude.{Some, None, Result, Ok, Err}
use Rattle.quantity.specs.declared.sample_format.SampleFormat.{SampleFormat}
use Rattle.refusal.specs.declared.Refusal.{Refusal}
use Rattle.refusal.specs.declared.Refusal.TheVariants.{RowCut}
use Rattle.refusal.specs.Number.{number}
use Rattle.content_light.specs.declared.RunRecord.{RunRecord}
use Rattle.content_light.specs.declared.Peak.{Peak}
use Rattle.content_light.specs.Peak.{row_in, Test, accepted, refused, row_test, accepted_rows, after_rows, peak_of, measured}
use Rattle.content_light.specs.Run.{fresh_record, with_row, held, peak_answer}
use Rattle.content_light.proofs.RangeLaws.{InRange, fresh_in_range, read_same, taken, in_range_row}
use Rattle.content_light.proofs.RunLaws.{answered, held_row, rows_of_row}
use Rattle.listing.specs.Text.{line_within, refusal_line_within}
use Rattle.title.specs.declared.opening.Layout.{Layout}
use Rattle.title.specs.declared.row_bytes.RowBytes.TheVariants.{Whole}
use Rattle.title.specs.Opening.{opening_answer, rows_of}
use Rattle.title.specs.Rows.{row_bytes, title_rows}
use Rattle.title.proofs.RowsLaws.{at_end, cut_short_lem, whole, no_row, one_row}
use Rattle.title.proofs.ReadingLaws.{read_opening, Opened, opening_read}
use Rattle.measured_title.specs.NextRow.{NextRow, next_row, peak_line, peak_line_within}
use Rattle.measured_title.specs.Title.{all_in, first_refusal, line_after, rows_line, title_line_after, title_line}
use Rattle.measured_title.proofs.NextRowLaws.{next_by}

-- what follows a row: the next one with the longer record, the line of a refusal, or the result's
abbrev pub following : NextRow → (RunRecord → List ℕ) → List ℕ → List ℕ
following (Ok (Some longer)) next result = next longer
following (Ok None) next result = result
following (Err refusal) next result = refusal_line_within (number refusal) 29

-- `run_of_rows`, of so many turns, and what is printed of it, with the buffers of `print_peak` and `print_refusal`
unfoldable pub print_line : ℕ → RunRecord → SampleFormat → ℕ → ℕ → List ℕ → List ℕ
print_line zero r format width left rest = peak_line_within (peak_answer r) 63
print_line (suc turns) r format width left rest =
    let result = peak_line_within (peak_answer r) 63 in
    cond (eqb left 0) result
    (following (next_row r format width (take (6 * width) rest)) (λ longer. print_line turns longer format width (left - 1) (drop (6 * width) rest)) result)

-- `measure_title`
abbrev pub print_title : Result Layout Refusal → ℕ → List ℕ → List ℕ
print_title (Ok layout) limit rest = print_line limit fresh_record layout.source.format layout.width limit rest
print_title (Err refusal) limit rest = refusal_line_within (number refusal) 29

unfoldable pub program_line : ℕ → List ℕ → List ℕ
program_line limit title =
    let read = read_opening 7 [] title in
    print_title (opening_answer read.held) limit read.rest

-- the buffers have room
room_for_peak : (answer : Result Peak Refusal) → peak_line_within answer 63 ≡ peak_line answer
unfolding line_within refusal_line_within
room_for_peak (Ok peak) = refl
room_for_peak (Err refusal) = refl

-- the line of the rows that are left, after those that a record holds
abbrev line_from : RunRecord → SampleFormat → ℕ → List (List ℕ) → List ℕ
line_from r format width rows =
    line_after (first_refusal format width r.rows rows) (peak_of (after_rows (held r) r.rows (accepted_rows r.rows (all_in format rows))))

result_line : (r : RunRecord) (format : SampleFormat) (width : ℕ) → InRange r → peak_line_within (peak_answer r) 63 ≡ line_from r format width []
unfolding peak_answer first_refusal all_in accepted_rows after_rows
result_line r format width x = room_for_peak (peak_answer r) ∙ ap (λ (s : RunRecord). peak_line (peak_of (held s))) (read_same r x)

-- One row: what is printed from it on is the line from it on, where that is so of the rows after it with any longer record.
module _ (r : RunRecord) (format : SampleFormat) (width : ℕ) (row : List ℕ) (later : List (List ℕ)) (next : RunRecord → List ℕ) (x : InRange r)
    (again : (s : RunRecord) → InRange s → next s ≡ line_from s format width later) where
  abbrev printed : NextRow → Type 0
  printed n = following n next (peak_line_within (peak_answer r) 63) ≡ line_from r format width (row ∷ later)

  row_cut : row_bytes width row ≡ Err RowCut → printed (next_row r format width row)
  unfolding first_refusal refusal_line_within
  row_cut e = rw (next_by r format width row e, e)

  row_tested : row_bytes width row ≡ Ok Whole → (t : Test) → row_test r.rows (row_in format row) ≡ t → printed (next_row r format width row)
  unfolding first_refusal all_in accepted_rows after_rows refusal_line_within
  row_tested e accepted p =
      let s = with_row r (row_in format row) in
      let y = again s (in_range_row r (row_in format row) x (taken r.rows (row_in format row) p)) in
      rw (next_by r format width row e, answered r (row_in format row) x, e, p) (y ∙ rw (held_row r (row_in format row), rows_of_row r (row_in format row)))
  row_tested e (refused refusal) p = rw (next_by r format width row e, answered r (row_in format row) x, e, p)

-- Row by row the line of all rows is printed.
pub line_printed : (turns : ℕ) (r : RunRecord) (format : SampleFormat) (width left : ℕ) (rest : List ℕ) → left ≤ turns → InRange r
    → print_line turns r format width left rest ≡ line_from r format width (title_rows width left rest)
unfolding print_line title_rows
line_printed zero r format width zero rest h x = result_line r format width x
line_printed (suc turns) r format width zero rest h x = result_line r format width x
line_printed zero r format width (suc left) rest h x = absurd (omega arith)
line_printed (suc turns) r format width (suc left) rest h x =
    let one : suc left - 1 ≡ left = omega arith in
    rw (ne_eqb (suc left) 0 (omega arith), one)
    (by_length (dec_lt 0 (length row)) (dec_lt (length row) (6 * width)) (λ s y. line_printed turns s format width left later (omega arith) y))
  where
    row : List ℕ
    row = take (6 * width) rest

    later : List ℕ
    later = drop (6 * width) rest

    by_length : Dec (0 < length row) → Dec (length row < 6 * width)
        → ((s : RunRecord) → InRange s → print_line turns s format width left later ≡ line_from s format width (title_rows width left later))
        → following (next_row r format width row) (λ longer. print_line turns longer format width left later) (peak_line_within (peak_answer r) 63)
        ≡ line_from r format width (title_rows width (suc left) rest)
    by_length (no s) d again =
        let none : length row ≡ 0 = omega arith in
        rw (next_by r format width row (at_end width row none), no_row width left rest none) (result_line r format width x)
    by_length (yes s) (yes l) again =
        rw (one_row width left rest (omega arith))
        (row_cut r format width row (title_rows width left later) _ x again (cut_short_lem width row (omega arith) l))
    by_length (yes s) (no l) again =
        rw (one_row width left rest (omega arith))
        (row_tested r format width row (title_rows width left later) _ x again (whole width row (omega arith) (omega arith))
        (row_test r.rows (row_in format row)) refl)

-- The program prints the title's line, whatever the title's bytes and the limit.
pub program_line_lem : (limit : ℕ) (title : List ℕ) → program_line limit title ≡ title_line limit title
unfolding program_line title_line rows_line measured held refusal_line_within
program_line_lem limit title = rw read.answer (go (opening_answer title) refl)
  where
    read : Opened title (read_opening 7 [] title)
    read = opening_read title

    rest : List ℕ
    rest = (read_opening 7 [] title).rest

    go : (answer : Result Layout Refusal) → opening_answer title ≡ answer → print_title answer limit rest ≡ title_line_after answer limit (rows_of title)
    go (Ok layout) e =
        line_printed limit fresh_record layout.source.format layout.width limit rest (omega arith) fresh_in_range
        ∙ ap (λ (bytes : List ℕ). rows_line layout.source.format layout.width (title_rows layout.width limit bytes)) (sym (read.rows layout e))
    go (Err refusal) e = refl
