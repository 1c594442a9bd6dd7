-- A title's next row counted into a run's record, and the line of its result (request 01, the program; scope, What stops a call, 11).
-- A row is the bytes that came for it, a width its pixels; `room` is the length of the buffer for the line.
use Rattle.std.specs.Prelude.{ℕ, List, Option, Some, None, Result, Ok, Err}
use Rattle.quantity.specs.declared.sample_format.SampleFormat.{SampleFormat}
use Rattle.quantity.specs.Component.{pixel}
use Rattle.refusal.specs.declared.Refusal.{Refusal}
use Rattle.refusal.specs.Number.{number}
use Rattle.content_light.specs.declared.RunRecord.{RunRecord}
use Rattle.content_light.specs.declared.Peak.{Peak}
use Rattle.content_light.specs.Peak.{row_in}
use Rattle.content_light.specs.Run.{record_answer}
use Rattle.listing.specs.Text.{line, line_within, refusal_line, refusal_line_within}
use Rattle.title.specs.declared.row_bytes.RowBytes.{RowBytes}
use Rattle.title.specs.declared.row_bytes.RowBytes.TheVariants.{Whole, End}
use Rattle.title.specs.Rows.{row_bytes}

-- a row of a title: the record with a whole one in it, nothing at the title's end, or a refusal
abbrev pub NextRow : Type 0
NextRow = Result (Option RunRecord) Refusal

abbrev pub after_call : Result RunRecord Refusal → NextRow
after_call (Ok r) = Ok (Some r)
after_call (Err refusal) = Err refusal

-- what the bytes that came for a row make of it, and of a whole one what the run's call answers
abbrev pub after_bytes : Result RowBytes Refusal → Result RunRecord Refusal → NextRow
after_bytes (Ok Whole) answer = after_call answer
after_bytes (Ok End) answer = Ok None
after_bytes (Err refusal) answer = Err refusal

-- the title's end, else refusal 11, else as the run decides
unfoldable pub next_row : RunRecord → SampleFormat → ℕ → List ℕ → NextRow
next_row r format width row = after_bytes (row_bytes width row) (record_answer r (row_in format row))

-- the line of a result: peak, row and pixel with one space between, or the refusal
abbrev pub peak_line : Result Peak Refusal → List ℕ
peak_line (Ok peak) = line (pixel peak.cd peak.row peak.pixel)
peak_line (Err refusal) = refusal_line (number refusal)

-- the same for a buffer of so many bytes
abbrev pub peak_line_within : Result Peak Refusal → ℕ → List ℕ
peak_line_within (Ok peak) room = line_within (pixel peak.cd peak.row peak.pixel) room
peak_line_within (Err refusal) room = refusal_line_within (number refusal) room
