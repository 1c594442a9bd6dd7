-- The text of a title, from its first byte to its last: scope (document 01), "Cards, rows, program", what the program prints.
-- A title is a list of bytes, a text one of ASCII bytes; the limit is the most rows that are read.
use Rattle.std.specs.Prelude.{ℕ, List, [], ◌∷◌, ◌++◌, length, Result, Ok, Err}
use Rattle.quantity.specs.declared.Source.{Source}
use Rattle.refusal.specs.declared.Refusal.{Refusal}
use Rattle.refusal.specs.Number.{number}
use Rattle.listing.specs.Text.{refusal_line}
use Rattle.title.specs.declared.opening.Layout.{Layout}
use Rattle.title.specs.declared.row_bytes.RowBytes.TheVariants.{Whole, End}
use Rattle.title.specs.Opening.{opening_answer, rows_of}
use Rattle.title.specs.Rows.{title_rows}
use Rattle.converted_title.specs.NextRow.{NextRow, converted_text, next_row}

-- what a row adds to a text that its own lines and those of the later rows would make: a refused row adds its refusal as the last line (none of a
-- title's rows is its end)
abbrev pub with_row : NextRow → List ℕ → List ℕ → List ℕ
with_row (Ok Whole) own later = own ++ later
with_row (Err refusal) own later = refusal_line (number refusal)
with_row (Ok End) own later = []

-- the text of rows of so many pixels
unfoldable pub rows_text : Source → ℕ → List (List ℕ) → List ℕ
rows_text source width [] = []
rows_text source width (row ∷ later) = with_row (next_row source width row (length row)) (converted_text source row) (rows_text source width later)

abbrev pub text_after : Result Layout Refusal → ℕ → List ℕ → List ℕ
text_after (Ok layout) limit bytes = rows_text layout.source layout.width (title_rows layout.width limit bytes)
text_after (Err refusal) limit bytes = refusal_line (number refusal)

-- scope, program: the whole text of a title
unfoldable pub title_text : ℕ → List ℕ → List ℕ
title_text limit title = text_after (opening_answer title) limit (rows_of title)
