-- `pq::light_table` meets its contract: the constant of the source is the table of the specification.
use mathlib.Core.Path.{refl}
use Rattle.pq.specs.LightTable.{light_table}
use Rattle.pq.proofs.light_table.Goals as goal

pub returns : goal.returns
unfolding light_table
returns c = refl
