-- `inverse_eotf::threshold_table` meets its contract: the constant is the table of the definition, entry by entry.
use mathlib.Core.Path.{refl}
use Rattle.inverse_eotf.specs.ThresholdTable.{threshold_table}
use Rattle.inverse_eotf.proofs.threshold_table.Goals as goal

pub returns : goal.returns
unfolding threshold_table
returns c = refl
