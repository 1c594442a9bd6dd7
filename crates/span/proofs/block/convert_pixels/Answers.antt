-- `span::block::convert_pixels` meets its contract. The invariant: the destination holds the pixels of the blocks so far and then its own bytes.
use Rattle.std.proofs.Common.{◌≡◌, ◌+◌, min, arith}
use Rattle.span.specs.Block.{row_samples}
use Rattle.span.proofs.BlockLaws.{none_written, block_written, all_written}
use Rattle.span.proofs.block.convert_pixels.Goals as goal

pub loop-first-init : goal.loop-first-init
loop-first-init g c = none_written _ _ _ (omega arith)

pub loop-first-preserved : goal.loop-first-preserved
loop-first-preserved g c =
    let first = c.loop-first.first in
    let n : min first c.min-pixels.result ≡ first = omega arith in
    let m : min (first + 32) c.min-pixels.result ≡ c.min-end.result = omega arith in
    block_written (row_samples c.args.format (g.R.Row.mapping c.args.row.now) (g.R.Row.given c.args.row.now)) c.args.dst.now c.loop-first.dst _
    first _ _ _ (omega arith) n m c.loop-first.invariant c.convert_block.ensures

pub returns-2 : goal.returns-2
returns-2 g c =
    let first = c.loop-first.first in
    let n : min first c.min-pixels.result ≡ first = omega arith in
    let m : c.min-pixels.result ≡ c.min-end.result = omega arith in
    let samples = row_samples c.args.format (g.R.Row.mapping c.args.row.now) (g.R.Row.given c.args.row.now) in
    all_written samples c.args.dst.now _ c.min-pixels.result _ (omega arith)
    (block_written samples c.args.dst.now c.loop-first.dst _ first _ _ _ (omega arith) n m c.loop-first.invariant c.convert_block.ensures)
