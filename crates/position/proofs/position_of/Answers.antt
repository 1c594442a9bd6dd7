-- `position::position_of` meets its contract: light grows with the position, so the search over all positions is the definition.
use Rattle.std.proofs.Common.{rules, nat_le}
use Rattle.laws.proofs.LargestLaws.{at_most_falls}
use Rattle.quantity.specs.Units.{last_position}
use Rattle.position.specs.Position.{light_at, position_of}
use Rattle.position.proofs.LightLaws.{light_grows}
use Rattle.position.proofs.position_of.Goals as goal

pub returns : goal.returns
unfolding position_of last_position
returns c =
    c.largest.ensures (λ q. nat_le (light_at q) c.args.l.0) (at_most_falls light_at c.args.l.0 light_grows) (λ q b l h e. search rules)
