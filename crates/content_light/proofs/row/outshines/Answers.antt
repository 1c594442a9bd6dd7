-- `content_light::row::outshines` meets its contract: ranks compare as lights do.
use mathlib.Core.Path.{◌∙◌, ap₂}
use lib.Dec.{leb}
use Rattle.content_light.proofs.OutshinesLaws.{by_ranks}
use Rattle.content_light.proofs.row.outshines.Goals as goal

pub returns : goal.returns
returns c = ap₂ leb c.light_rank.ensures c.light_rank-2.ensures ∙ by_ranks c.args.m.0 c.args.found.0 c.requires
