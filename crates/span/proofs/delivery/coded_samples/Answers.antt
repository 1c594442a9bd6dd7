-- `span::delivery::coded_samples` meets its contract: what is delivered are HLG codes.
use Rattle.std.proofs.Common.{ap, ◌∙◌}
use Rattle.quantity.specs.Component.{components}
use Rattle.ycbcr.specs.Delivery.{in_format}
use Rattle.span.proofs.MappingLaws.{are_codes}
use Rattle.span.proofs.delivery.coded_samples.Goals as goal

pub samples_in-requires : goal.samples_in-requires
samples_in-requires c = are_codes c.near_codes.result (components c.args.m) c.near_codes.ensures

pub returns : goal.returns
returns c = c.samples_in.ensures ∙ ap (in_format c.args.format) c.near_codes.ensures
