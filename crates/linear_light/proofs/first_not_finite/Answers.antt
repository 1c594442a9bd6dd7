-- `linear_light::first_not_finite` meets its contract: each turn of the loop takes the search one value on.
use Rattle.std.proofs.Common.{◌≡◌, ◌+◌, ◌-◌, cond, not, sym, ◌∙◌, arith}
use Rattle.rows.proofs.AnswerLaws.{found_before, none_before, refused_here, refused_none}
use Rattle.linear_light.specs.Row.{first_not_finite}
use Rattle.linear_light.proofs.first_not_finite.Goals as goal
use Rattle.linear_light.proofs.first_not_finite.Goals.{After-is_finite}

-- the whole search goes by the test of value i
by_value : (c : After-is_finite) → let a = c.args in
    let i = c.loop-i.i in
    let last = c.min-i-end.result in
    first_not_finite a.row.now a.values.start (last - a.values.start) ≡ cond (not c.is_finite.result) i (first_not_finite a.row.now (i + 1) (last - (i + 1)))
by_value c = c.loop-i.invariant ∙ refused_here _ c.loop-i.i c.min-i-end.result (omega arith) ∙ simp (sym c.is_finite.ensures)

pub returns-then-not-is_finite : goal.returns-then-not-is_finite
returns-then-not-is_finite c =
    let last = c.min-i-end in
    rw (sym last.ensures) (found_before (by_value (goal.at.returns-then-not-is_finite c).After-is_finite ∙ simp c.if-not-is_finite.true) (omega arith))

pub loop-i-preserved : goal.loop-i-preserved
loop-i-preserved c = by_value (goal.at.loop-i-preserved c).After-is_finite ∙ simp c.if-not-is_finite.false

pub returns : goal.returns
returns c =
    let last = c.min-i-end in
    rw (sym last.ensures) (none_before (c.loop-i.invariant ∙ refused_none _ c.loop-i.i (last.result - c.loop-i.i) (omega arith)) (omega arith))
