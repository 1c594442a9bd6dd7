-- `position::code::light_of_code` meets its contract: the table that it reads is the light table.
use mathlib.Core.Path.{◌∙◌}
use Rattle.position.proofs.CodeLaws.{lent_code_light}
use Rattle.position.proofs.code.light_of_code.Goals as goal

pub returns : goal.returns
returns c = c.light_of_code_in.ensures ∙ lent_code_light _ _ c.args.d c.light_table.ensures
