-- `position::light_at` meets its contract: the table that it reads is the light table.
use mathlib.Core.Path.{◌∙◌}
use Rattle.position.proofs.LightLaws.{lent_light}
use Rattle.position.proofs.light_at.Goals as goal

pub returns : goal.returns
returns c = c.light_in.ensures ∙ lent_light _ c.args.q.0 c.light_table.ensures
