-- The next row by the bytes that came for it.
use mathlib.Core.Path.{◌≡◌, ap}
use mathlib.Core.List.{List}
use Prim.Native.Nat.{ℕ}
use Rattle.std.specs.Prelude.{Result}
use Rattle.quantity.specs.declared.sample_format.SampleFormat.{SampleFormat}
use Rattle.refusal.specs.declared.Refusal.{Refusal}
use Rattle.content_light.specs.declared.RunRecord.{RunRecord}
use Rattle.content_light.specs.Peak.{row_in}
use Rattle.content_light.specs.Run.{record_answer}
use Rattle.title.specs.declared.row_bytes.RowBytes.{RowBytes}
use Rattle.title.specs.Rows.{row_bytes}
use Rattle.measured_title.specs.NextRow.{after_bytes, next_row}

pub next_by : (r : RunRecord) (format : SampleFormat) (width : ℕ) (row : List ℕ) {b : Result RowBytes Refusal} → row_bytes width row ≡ b
    → next_row r format width row ≡ after_bytes b (record_answer r (row_in format row))
unfolding next_row
next_by r format width row e = ap (λ (b : Result RowBytes Refusal). after_bytes b (record_answer r (row_in format row))) e
