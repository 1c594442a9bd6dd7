-- The row calls and their C hosts (scope, Cards, rows, program; What stops a call; request 04: Y'CbCr beside RGB). A row and its destination are lists
-- of bytes, pixels are counted from 0 at the row's start; what is declared of the source is its peak, in whole cd/m2, and how its samples are coded.
use Rattle.std.specs.Prelude.{cond, List, ℕ, length, Result, Err}
use Rattle.quantity.specs.declared.Source.{Source}
use Rattle.quantity.specs.SampleFormat.{format_of}
use Rattle.refusal.specs.declared.Refusal.{Refusal}
use Rattle.refusal.specs.declared.Refusal.TheVariants.{Peak}
use Rattle.rows.specs.Answer.{span_answer, bytes_after}
use Rattle.ycbcr.specs.declared.SignalFormat.{SignalFormat}
use Rattle.ycbcr.specs.declared.SignalFormat.TheVariants.{Rgb}
use Rattle.ycbcr.specs.Delivery.{delivered}
use Rattle.pq_hlg.specs.Pixel.{peak_refused, sample_refused}

-- what the call answers for the pixels first to end − 1 of a row and a destination of so many bytes: 5, then 6 to 9
unfoldable pub row_answer : Source → List ℕ → ℕ → ℕ → ℕ → Result (Unit {0}) Refusal
row_answer source row bytes first end = cond (peak_refused source.peak) (Err Peak) (span_answer (sample_refused source.format) row bytes first end)

-- the destination afterwards: what a format delivers of the span in its places, or all as it was
abbrev pub delivered_after : SignalFormat → Source → List ℕ → List ℕ → ℕ → ℕ → List ℕ
delivered_after format source row dst first end =
    bytes_after (row_answer source row (length dst) first end) (delivered format source) row dst first end

-- RGB: the HLG codes of the span, or all as it was
unfoldable pub destination_after : Source → List ℕ → List ℕ → ℕ → ℕ → List ℕ
destination_after source row dst first end = delivered_after Rgb source row dst first end

-- what a host in C declares of a source, by two numbers: its peak, and depth and range in two bits (request 06)
abbrev pub source_of : ℕ → ℕ → Source
source_of peak format = record { peak = peak; format = format_of format }
