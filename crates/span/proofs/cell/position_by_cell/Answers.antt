-- `span::cell::position_by_cell` meets its contract: the light's cell gives its position, and from 10,000 cd/m2 on it is the last one.
use Rattle.std.proofs.Common.{sym, arith}
use Rattle.quantity.specs.Units.{units, ten_thousand, last_position}
use Rattle.position.proofs.PositionLaws.{past_position}
use Rattle.span.proofs.LinearLaws.{position_in_cell}
use Rattle.span.proofs.cell.position_by_cell.Goals as goal

pub returns-then-l-ge-TEN_THOUSAND : goal.returns-then-l-ge-TEN_THOUSAND
unfolding units ten_thousand last_position
returns-then-l-ge-TEN_THOUSAND c = sym (past_position c.args.l.0 (omega arith))

pub cell_of-k-requires : goal.cell_of-k-requires
unfolding units ten_thousand
cell_of-k-requires c = omega arith

pub returns : goal.returns
returns c = position_in_cell _ _ _ _ c.cell_of-k.ensures c.light_entry-low.ensures.0 c.light_entry-next.ensures.0
