use Rattle.std.proofs.Common.{◌≡◌, ◌*◌, ◌++◌, drop, min}
use Rattle.rows.specs.Row.{pixels_bytes}
use Rattle.span.specs.Block.{row_samples}
use Rattle.span.proofs.block.convert_pixels.Given as goal

abbrev pub invariant-loop-first : goal.invariant-loop-first
invariant-loop-first g l =
    let n = min l.first l.pixels in
    l.dst ≡ pixels_bytes (row_samples l.format (g.R.Row.mapping l.row) (g.R.Row.given l.row)) 0 n ++ drop (6 * n) l.initial.dst
