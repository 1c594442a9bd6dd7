-- `inverse_oetf::scene_table` meets its contract: the constant is the table of the definition, entry by entry.
use mathlib.Core.Path.{refl}
use Rattle.inverse_oetf.specs.SceneTable.{scene_table}
use Rattle.inverse_oetf.proofs.scene_table.Goals as goal

pub returns : goal.returns
unfolding scene_table
returns c = refl
