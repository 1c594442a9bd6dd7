-- The row call of the return path and its C host (request 08; scope, Cards, rows, program; What stops a call). A row and its destination are lists of
-- bytes, pixels are counted from 0 at the row's start.
use Rattle.std.specs.Prelude.{List, ℕ, length, Result}
use Rattle.refusal.specs.declared.Refusal.{Refusal}
use Rattle.rows.specs.Answer.{span_answer, bytes_after}
use Rattle.return_pixel.specs.Conversion.{pq_codes}
use Rattle.hlg_pq.specs.Pixel.{hlg_refused}

-- what the call answers for the pixels first to end − 1 of a row and a destination of so many bytes: 6 to 9, as on the outward path
abbrev pub row_answer : List ℕ → ℕ → ℕ → ℕ → Result (Unit {0}) Refusal
row_answer = span_answer hlg_refused

-- the destination afterwards: the PQ codes of the span in its places, or all as it was
abbrev pub destination_after : List ℕ → List ℕ → ℕ → ℕ → List ℕ
destination_after row dst first end = bytes_after (row_answer row (length dst) first end) pq_codes row dst first end
