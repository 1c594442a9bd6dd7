-- `hlg_steps::step_table` meets its contract: the constant is the table of the definition, entry by entry.
use mathlib.Core.Path.{refl}
use Rattle.hlg_steps.specs.StepTable.{step_table}
use Rattle.hlg_steps.proofs.step_table.Goals as goal

pub returns : goal.returns
unfolding step_table
returns c = refl
