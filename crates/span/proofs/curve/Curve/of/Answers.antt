-- `span::curve::Curve::of` meets its contract: the position is that of the peak as read.
use Rattle.quantity.specs.Units.{units}
use Rattle.span.proofs.curve.Curve.of.Goals as goal

pub invariant_of-result : goal.invariant_of-result
unfolding units
invariant_of-result c = record { shared = record { position = c.position_by_cell-position.ensures; start = c.knee_light.ensures } }
