-- `span::curve::Curve::bent` meets its contract: each branch is the law of its side of 1,000 cd/m2 or of the knee.
use Rattle.std.proofs.Common.{sym, ◌∙◌, arith}
use Rattle.quantity.specs.Units.{units, thousand}
use Rattle.position.specs.Position.{position_of}
use Rattle.eetf.proofs.CurveLaws.{unbent}
use Rattle.span.proofs.LinearLaws.{below_knee_light, curved_light}
use Rattle.span.proofs.curve.Curve.bent.Goals as goal

pub returns-then-self-le1000 : goal.returns-then-self-le1000
unfolding units thousand
returns-then-self-le1000 c =
    let a = c.args in
    c.min.ensures ∙ sym (unbent a.self.peak a.l (position_of a.l) (omega arith))

pub returns-then-l-self : goal.returns-then-l-self
returns-then-l-self c =
    let a = c.args in
    let shared = a.self.shared in
    let below = rw (shared.start, shared.position) at c.if-l-self.true in
    sym (below_knee_light a.self.peak a.l (omega arith) below)

pub returns : goal.returns
returns c =
    let a = c.args in
    curved_light a.self.peak a.l (omega arith) _ a.self.position.0 _ c.light_table.ensures a.self.shared.position c.requires
    c.position_by_cell.ensures c.knee_curve.ensures
