-- A title's next row: scope (document 01), "Cards, rows, program", one line for each pixel; refusals 11 and then 9 of "What stops a call".
-- A row is the bytes that came for it, a width its pixels; `bytes` is the length of the buffer for its codes, `room` that for its text.
use Rattle.std.specs.Prelude.{ℕ, ◌*◌, ◌/◌, ◌-◌, cond, List, [], ◌≡◌, length, leb, Result, Ok, Err}
use Rattle.quantity.specs.declared.Source.{Source}
use Rattle.refusal.specs.declared.Refusal.{Refusal}
use Rattle.refusal.specs.Number.{number}
use Rattle.pixel.specs.Conversion.{code}
use Rattle.rows.specs.Row.{pixel_at, span_bytes}
use Rattle.pq_hlg.specs.Row.{row_answer}
use Rattle.listing.specs.Text.{lines, refusal_line_within, opened}
use Rattle.title.specs.Rows.{row_bytes}
use Rattle.title.specs.declared.row_bytes.RowBytes.{RowBytes}
use Rattle.title.specs.declared.row_bytes.RowBytes.TheVariants.{Whole, End}
use Rattle.converted_title.specs.declared.next_row.Piece.{Piece}

-- scope, program: a line for each pixel of a row, of its HLG codes
unfoldable pub converted_text : Source → List ℕ → List ℕ
converted_text source row = lines (λ j. code source (pixel_at row j)) (length row / 6)

-- what a call for the whole row answers, and the bytes that it gives
abbrev pub whole_row_answer : Source → List ℕ → ℕ → Result (Unit {0}) Refusal
whole_row_answer source row bytes = row_answer source row bytes 0 (length row / 6)

abbrev pub whole_row_bytes : Source → List ℕ → List ℕ
whole_row_bytes source row = span_bytes (code source) row 0 (length row / 6)

-- a row of a title: a whole one whose samples are all taken, the title's end, or a refusal
abbrev pub NextRow : Type 0
NextRow = Result RowBytes Refusal

abbrev pub after_call : Result (Unit {0}) Refusal → NextRow
after_call (Ok done) = Ok Whole
after_call (Err refusal) = Err refusal

-- what the bytes that came for a row make of it, and of a whole one what the row call answers
abbrev pub after_bytes : Result RowBytes Refusal → Result (Unit {0}) Refusal → NextRow
after_bytes (Ok Whole) answer = after_call answer
after_bytes (Ok End) answer = Ok End
after_bytes (Err refusal) answer = Err refusal

-- scope, What stops a call: the title's end, else refusal 11; then the row call decides, of whose refusals a title can only meet 9 (`only_nine`)
unfoldable pub next_row : Source → ℕ → List ℕ → ℕ → NextRow
next_row source width row bytes = after_bytes (row_bytes width row) (whole_row_answer source row bytes)

-- the codes' buffer afterwards
abbrev pub codes_after : NextRow → Source → List ℕ → List ℕ → List ℕ
codes_after (Ok Whole) source row codes = whole_row_bytes source row
codes_after (Err refusal) source row codes = codes
codes_after (Ok End) source row codes = codes

-- what the next row has printed; nothing where the text buffer has fewer than 18 bytes for each pixel, or than a refusal takes
abbrev pub piece_text : NextRow → Source → List ℕ → ℕ → List ℕ
piece_text (Ok Whole) source row room = cond (leb (18 * (length row / 6)) room) (converted_text source row) []
piece_text (Err refusal) source row room = refusal_line_within (number refusal) room
piece_text (Ok End) source row room = []

-- how many rows are still to be read where `left` were: one fewer after a row that was listed, else none
abbrev pub rows_left : NextRow → ℕ → ℕ
rows_left (Ok Whole) left = left - 1
rows_left (Err refusal) left = 0
rows_left (Ok End) left = 0

-- what is promised of the piece of a title's text that its next row gives, and of both buffers: `codes` and `text` before, those with a prime after
pub record NextPiece (next : NextRow) (source : Source) (left : ℕ) (row codes text : List ℕ) (piece : Piece) (codes' text' : List ℕ) : Type 0 where
  pub answer : piece ≡ record { bytes = length (piece_text next source row (length text)); left = rows_left next left }
  pub of_codes : codes' ≡ codes_after next source row codes
  pub of_text : text' ≡ opened (piece_text next source row (length text)) text
