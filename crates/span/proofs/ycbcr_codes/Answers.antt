-- `span::ycbcr_codes` meets its contract: each code is read, and what is read lies in its range.
use Rattle.std.proofs.Common.{◌≡◌, ap, ◌∙◌}
use Rattle.quantity.specs.Component.{red, green, blue, Pixel, pixel, components}
use Rattle.ycbcr.specs.YCbCr.{luma, cb, cr}
use Rattle.span.specs.Span.{hlg_read}
use Rattle.span.proofs.MappingLaws.{pixel_is}
use Rattle.span.proofs.ycbcr_codes.Goals as goal

pub returns : goal.returns
returns c =
    let codes = c.args.codes in
    let h = c.luma_and_chroma.ensures in
    let e : components c.map.result ≡ pixel (hlg_read codes.red) (hlg_read codes.green) (hlg_read codes.blue) =
    pixel_is _ c.map.ensures.red c.map.ensures.green c.map.ensures.blue in
    (ap (λ (q : Pixel). q red) h ∙ ap luma e, ap (λ (q : Pixel). q green) h ∙ ap cb e, ap (λ (q : Pixel). q blue) h ∙ ap cr e)
