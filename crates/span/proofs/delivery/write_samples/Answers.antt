-- `span::delivery::write_samples` meets its contract: six stores of bytes of three samples, each at most 1,019.
use Rattle.std.proofs.Common.{arith}
use Rattle.quantity.specs.Component.{components}
use Rattle.rows.proofs.RowLaws.{pixel_stored}
use Rattle.span.proofs.delivery.write_samples.Goals as goal

pub returns : goal.returns
returns c = pixel_stored (components c.args.samples) c.args.dst.now c.requires.0 (omega arith)
