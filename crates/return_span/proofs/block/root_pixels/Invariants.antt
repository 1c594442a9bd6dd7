use Rattle.std.proofs.Common.{◌≡◌, length}
use Rattle.std.specs.Iterator.Adapters.{enumerate_count}
use Rattle.quantity.specs.Component.{components}
use Rattle.rows.proofs.ChunkLaws.{Left}
use Rattle.return_span.specs.Settled.{IsRooted, RootedTo}
use Rattle.return_span.proofs.block.root_pixels.Given as goal

abbrev pub invariant-loop-j : goal.invariant-loop-j
invariant-loop-j l =
    record {
      left : Left 6 l.src l.j-iterator;
      long : length l.block ≡ 64;
      rooted : RootedTo l.src l.block (enumerate_count l.j-iterator);
      last : IsRooted (components l.last.pixel) l.last.found;
    }
