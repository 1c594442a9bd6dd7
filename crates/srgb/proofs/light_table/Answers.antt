-- `srgb::light_table` meets its contract: the constant is the table of the definition, entry by entry.
use mathlib.Core.Path.{refl}
use Rattle.srgb.specs.LightTable.{linear_table}
use Rattle.srgb.proofs.light_table.Goals as goal

pub returns : goal.returns
unfolding linear_table
returns c = refl
