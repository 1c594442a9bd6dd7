use Rattle.std.proofs.Common.{◌≡◌, ◌*◌, ◌++◌, take, drop}
use Rattle.std.specs.Iterator.Adapters.{enumerate_count}
use Rattle.quantity.specs.Component.{components}
use Rattle.rows.specs.Row.{pixel_bytes, pixels_bytes}
use Rattle.srgb.specs.Conversion.{caption_codes}
use Rattle.srgb_hlg.specs.Row.{captions}
use Rattle.rows.proofs.ChunkLaws.{Left}
use Rattle.srgb_hlg.proofs.span.convert_span.Given as goal

abbrev pub invariant-loop-j : goal.invariant-loop-j
invariant-loop-j l =
    let j = enumerate_count l.j-iterator in
    record {
      left : Left 3 (take (3 * l.pixels) l.src) l.j-iterator;
      converted : l.dst ≡ pixels_bytes (captions l.src) 0 j ++ drop (6 * j) l.initial.dst;
      last : l.last.found ≡ pixel_bytes (caption_codes (components l.last.pixel));
    }
