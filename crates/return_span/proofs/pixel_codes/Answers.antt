-- `return_span::pixel_codes` meets its contract: the codes of a pixel's scene lights are the pixel's.
use Rattle.quantity.specs.Component.{components}
use Rattle.return_span.proofs.CodesLaws.{of_codes, has_codes}
use Rattle.return_span.proofs.pixel_codes.Goals as goal

pub codes-requires : goal.codes-requires
codes-requires c = let h = c.of.ensures in (h.root, of_codes (components c.args.p) _ h)

pub returns : goal.returns
returns c = has_codes (components c.args.p) _ c.of.ensures c.codes.ensures
