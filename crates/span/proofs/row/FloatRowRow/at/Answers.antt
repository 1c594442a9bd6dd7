-- `span::row::FloatRow::at` meets its contract: the light of a value is at most 10,000 cd/m2.
use Rattle.quantity.specs.Component.{red, green, blue}
use Rattle.linear_light.proofs.ValueLaws.{whole_at_most}
use Rattle.span.proofs.row.FloatRowRow.at.Goals as goal

pub returns-clause-bounds : goal.returns-clause-bounds
returns-clause-bounds c = elim [
  | red ↦ rw c.light_of_value.ensures (whole_at_most _)
  | green ↦ rw c.light_of_value-2.ensures (whole_at_most _)
  | blue ↦ rw c.light_of_value-3.ensures (whole_at_most _)
]
