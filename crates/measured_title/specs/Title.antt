-- The line that is printed of a measured title (request 01, the program): its measured peak, or its first refusal.
-- A title is a list of bytes, a line one of ASCII bytes; the limit is the most rows that are read.
use Rattle.std.specs.Prelude.{ℕ, suc, List, [], ◌∷◌, Result, Ok, Err}
use Rattle.quantity.specs.declared.sample_format.SampleFormat.{SampleFormat}
use Rattle.refusal.specs.declared.Refusal.{Refusal}
use Rattle.refusal.specs.Number.{number}
use Rattle.content_light.specs.declared.Peak.{Peak}
use Rattle.content_light.specs.Peak.{CodedRow, row_in, Test, accepted, refused, row_test, measured}
use Rattle.listing.specs.Text.{refusal_line}
use Rattle.title.specs.declared.opening.Layout.{Layout}
use Rattle.title.specs.declared.row_bytes.RowBytes.{RowBytes}
use Rattle.title.specs.declared.row_bytes.RowBytes.TheVariants.{Whole, End}
use Rattle.title.specs.Opening.{opening_answer, rows_of}
use Rattle.title.specs.Rows.{row_bytes, title_rows}
use Rattle.measured_title.specs.NextRow.{peak_line}

-- a row that is cut short is refused before it is tested (none of a title's rows is its end)
abbrev pub test_after : Result RowBytes Refusal → Test → Test
test_after (Ok Whole) test = test
test_after (Ok End) test = accepted
test_after (Err refusal) test = refused refusal

abbrev pub or_else : Test → Test → Test
or_else accepted later = later
or_else (refused refusal) later = refused refusal

-- the first refusal of rows of so many pixels, where so many were counted before them
unfoldable pub first_refusal : SampleFormat → ℕ → ℕ → List (List ℕ) → Test
first_refusal format width rows [] = accepted
first_refusal format width rows (row ∷ later) =
    or_else (test_after (row_bytes width row) (row_test rows (row_in format row))) (first_refusal format width (suc rows) later)

abbrev pub line_after : Test → Result Peak Refusal → List ℕ
line_after accepted answer = peak_line answer
line_after (refused refusal) answer = refusal_line (number refusal)

-- all rows of a title are coded alike
unfoldable pub all_in : SampleFormat → List (List ℕ) → List CodedRow
all_in format [] = []
all_in format (row ∷ later) = row_in format row ∷ all_in format later

-- the line of rows
unfoldable pub rows_line : SampleFormat → ℕ → List (List ℕ) → List ℕ
rows_line format width rows = line_after (first_refusal format width 0 rows) (measured (all_in format rows))

abbrev pub title_line_after : Result Layout Refusal → ℕ → List ℕ → List ℕ
title_line_after (Ok layout) limit bytes = rows_line layout.source.format layout.width (title_rows layout.width limit bytes)
title_line_after (Err refusal) limit bytes = refusal_line (number refusal)

-- the line of a title; of what its card declares the peak is not used
unfoldable pub title_line : ℕ → List ℕ → List ℕ
title_line limit title = title_line_after (opening_answer title) limit (rows_of title)
