use Rattle.std.proofs.Common.{◌≡◌, ◌*◌, ◌++◌, drop}
use Rattle.std.specs.Iterator.Adapters.{enumerate_count}
use Rattle.quantity.specs.Component.{components}
use Rattle.return_pixel.specs.Conversion.{pq_codes}
use Rattle.rows.specs.Row.{pixel_bytes, span_bytes}
use Rattle.rows.proofs.ChunkLaws.{Left}
use Rattle.return_span.proofs.block.code_pixels.Given as goal

abbrev pub invariant-loop-j : goal.invariant-loop-j
invariant-loop-j l =
    let j = enumerate_count l.j-iterator in
    record {
      left : Left 6 l.src l.j-iterator;
      converted : l.dst ≡ span_bytes pq_codes l.src 0 j ++ drop (6 * j) l.initial.dst;
      last : l.last.found ≡ pixel_bytes (pq_codes (components l.last.pixel));
    }
