-- `span::curve::knee_light` meets its contract: what it finds the position of is 1,000 cd/m2, and w is read at most at that sum.
use Rattle.std.proofs.Common.{◌≡◌, ◌+◌, ◌-◌, ◌*◌, ◌/◌, ap, ◌∙◌, arith}
use Rattle.quantity.specs.Units.{units, thousand, last_position}
use Rattle.position.specs.Position.{light_at, position_of}
use Rattle.position.proofs.PositionLaws.{position_is}
use Rattle.span.specs.Linear.{knee_light}
use Rattle.span.proofs.curve.knee_light.Goals as goal

pub overflow_mul-top : goal.overflow_mul-top
unfolding last_position
overflow_mul-top c = omega (arith, c.position_by_cell.ensures, (position_is 16777216000).range)

pub overflow_add-top : goal.overflow_add-top
unfolding last_position
overflow_add-top c = omega (arith, c.position_by_cell.ensures, (position_is 16777216000).range)

pub returns : goal.returns
unfolding knee_light units thousand
returns c =
    let w = c.args.w.0 in
    let top = 3 * c.position_by_cell.result.0 + 1 in
    let at : (top - c.min.result) / 2 ≡ (3 * position_of thousand + 1 - w) / 2 = omega (arith, c.position_by_cell.ensures, c.min.ensures) in
    c.light_at.ensures ∙ ap light_at at
