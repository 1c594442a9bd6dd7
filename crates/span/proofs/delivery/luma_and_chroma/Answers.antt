-- `span::delivery::luma_and_chroma` meets its contract: each division is the definition's number, and no step leaves 32 bits.
use Rattle.std.proofs.Common.{arith}
use Rattle.quantity.specs.Component.{components}
use Rattle.ycbcr.specs.YCbCr.{ycbcr}
use Rattle.ycbcr.proofs.WholeLaws.{luma_whole, cb_whole, cr_whole}
use Rattle.span.proofs.MappingLaws.{pixel_is}
use Rattle.span.proofs.delivery.luma_and_chroma.Goals as goal

pub returns : goal.returns
returns c =
    let p = components c.args.codes in
    let r = c.requires.red.0 in
    let g = c.requires.green.0 in
    let b = c.requires.blue.0 in
    pixel_is (ycbcr p) (omega (arith, luma_whole p r g b)) (omega (arith, cb_whole p r g b)) (omega (arith, cr_whole p r g b))
