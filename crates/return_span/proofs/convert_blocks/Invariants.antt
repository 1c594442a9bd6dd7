use Rattle.std.proofs.Common.{◌≡◌, ◌*◌, ◌/◌, ◌++◌, min, length, drop}
use Rattle.std.specs.Iterator.Adapters.{enumerate_count}
use Rattle.return_pixel.specs.Conversion.{pq_codes}
use Rattle.rows.specs.Row.{span_bytes}
use Rattle.rows.proofs.ChunkLaws.{PartsLeft}
use Rattle.return_span.proofs.convert_blocks.Given as goal

abbrev pub invariant-loop-k : goal.invariant-loop-k
invariant-loop-k l =
    let n = min (64 * enumerate_count l.k-iterator) (length l.src / 6) in
    record {
      left : PartsLeft 384 l.src l.k-iterator;
      long : length l.block ≡ 64;
      converted : l.dst ≡ span_bytes pq_codes l.src 0 n ++ drop (6 * n) l.initial.dst;
    }
