-- `rows::first_refused` meets its contract: each turn of the loop takes the search one sample on.
use Rattle.std.proofs.Common.{◌≡◌, ◌+◌, ◌-◌, ◌*◌, cond, sym, ◌∙◌, arith}
use Rattle.rows.specs.Answer.{outside, first_refused}
use Rattle.rows.proofs.RowLaws.{sample_of_part}
use Rattle.rows.proofs.AnswerLaws.{found_before, none_before, refused_here, refused_none}
use Rattle.rows.proofs.first_refused.Goals as goal
use Rattle.rows.proofs.first_refused.Goals.{After-refuses}

-- the whole search goes by the test of sample i
by_sample : (c : After-refuses) → let a = c.args in
    let refused = outside a.taken.least a.taken.most in
    let i = c.loop-i.i in
    let last = c.min-i-end.result in
    first_refused refused a.row.now a.samples.start (last - a.samples.start)
    ≡ cond c.refuses.result i (first_refused refused a.row.now (i + 1) (last - (i + 1)))
by_sample c =
    let a = c.args in
    let i = c.loop-i.i in
    let two = 2 * i + 2 - 2 * i in
    let sample = c.sample_at.ensures.0 ∙ sample_of_part a.row.now (2 * i) two 0 i (omega arith) (omega arith) in
    c.loop-i.invariant ∙ refused_here _ i c.min-i-end.result (omega arith) ∙ simp (sym sample, sym c.refuses.ensures)

pub returns-then-refuses : goal.returns-then-refuses
returns-then-refuses c =
    let last = c.min-i-end in
    rw (sym last.ensures) (found_before (by_sample (goal.at.returns-then-refuses c).After-refuses ∙ simp c.if-refuses.true) (omega arith))

pub loop-i-preserved : goal.loop-i-preserved
loop-i-preserved c = by_sample (goal.at.loop-i-preserved c).After-refuses ∙ simp c.if-refuses.false

pub returns : goal.returns
returns c =
    let last = c.min-i-end in
    rw (sym last.ensures) (none_before (c.loop-i.invariant ∙ refused_none _ c.loop-i.i (last.result - c.loop-i.i) (omega arith)) (omega arith))
