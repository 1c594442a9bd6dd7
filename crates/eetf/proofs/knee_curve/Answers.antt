-- `eetf::knee_curve` meets its contract, whatever the table holds: its numbers are read at their ranges' ends, and each branch is the law of that side.
use mathlib.Core.Path.{sym, ◌∙◌}
use Prim.Native.Nat.{min}
use native.Mathlib.Omega.{arith}
use Rattle.quantity.specs.Units.{units, ten_thousand, last_position}
use Rattle.pq.specs.Pq.{entry_in}
use Rattle.eetf.proofs.CurveLaws.{below_knee, from_knee}
use Rattle.eetf.proofs.knee_curve.Goals as goal

pub returns-then-at-end : goal.returns-then-at-end
unfolding units ten_thousand last_position
returns-then-at-end c =
    let a = c.args in
    let end = c.clamp-end.result in
    let at = c.min-at.result in
    c.min.ensures
    ∙ sym (below_knee (entry_in a.lights.now) a.w.0 (min a.m1.0 ten_thousand) (min a.m.0 last_position) end at
    (omega arith) (omega arith) (omega arith))

pub returns : goal.returns
unfolding units ten_thousand last_position
returns c =
    let a = c.args in
    let end = c.clamp-end.result in
    let at = c.min-at.result in
    c.light_in.ensures
    ∙ sym (from_knee (entry_in a.lights.now) a.w.0 (min a.m1.0 ten_thousand) (min a.m.0 last_position) end at _
    (omega arith) (omega arith) (omega arith) c.spline_position.ensures)
