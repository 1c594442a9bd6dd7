-- `return_span::convert_span` meets its contract: the whole pixels that both have are the span's.
use Rattle.std.proofs.Common.{◌≡◌, ℕ, ◌*◌, ◌/◌, List, ◌++◌, length, take, drop, ap, ap₂, ◌∙◌, arith, length-take}
use Rattle.return_pixel.specs.Conversion.{pq_codes}
use Rattle.rows.specs.Row.{converted, span_bytes}
use Rattle.rows.proofs.RowLaws.{span_of_part, no_pixels}
use Rattle.rows.proofs.SpanLaws.{begun}
use Rattle.return_span.proofs.convert_span.Goals as goal

pub returns-then-bytes-eq0 : goal.returns-then-bytes-eq0
returns-then-bytes-eq0 c = no_pixels _ _ _ (omega arith)

pub returns : goal.returns
returns c =
    let row = c.args.src.now in
    let dst = c.args.dst.now in
    let n = c.min.result / 6 in
    let pixels : length (take (n * 6) row) / 6 ≡ n = simp length-take (omega (arith, c.min.ensures)) in
    let y : c.convert_blocks.new.dst ≡ span_bytes pq_codes row 0 n =
    c.convert_blocks.ensures ∙ ap (span_bytes pq_codes (take (n * 6) row) 0) pixels ∙ span_of_part pq_codes row 0 n 0 (n * 6) (omega arith) (omega arith) in
    begun (converted pq_codes row) dst (length row) n (ap (λ (m : ℕ). m / 6) c.min.ensures)
    (ap₂ (λ (l : List ℕ) (m : ℕ). l ++ drop m dst) y (omega arith))
