-- `content_light::row::BoundedRow::last_reaching` meets its contract. The invariant: no pixel from j on reaches the position.
use Rattle.std.proofs.Common.{◌≡◌, sym, ap, ◌∙◌, arith, ℕ, ◌-◌}
use Rattle.position.specs.Position.{light_at}
use Rattle.content_light.specs.Peak.{row_in, outshines}
use Rattle.content_light.specs.Bounds.{reaches}
use Rattle.content_light.proofs.SearchLaws.{next_behind}
use Rattle.content_light.proofs.row.BoundedRow.last_reaching.Goals as goal
use Rattle.content_light.proofs.row.BoundedRow.last_reaching.Goals.{After-outshines}

-- the test of the pixel before j
tested : (c : After-outshines) → let row = c.args.self.now in reaches (row_in row.format row.bytes.now) c.args.m.0 (c.loop-j.j - 1) ≡ c.outshines.result
tested c = ap (λ (q : ℕ). outshines (light_at q) (light_at c.args.m.0)) (sym c.position_of.ensures) ∙ sym c.outshines.ensures

pub returns-then-outshines : goal.returns-then-outshines
returns-then-outshines c =
    record {
      within = omega arith;
      here = tested (goal.at.returns-then-outshines c).After-outshines ∙ c.if-outshines.true;
      others = λ k l h. c.loop-j.invariant k (omega arith) h;
    }

pub loop-j-preserved : goal.loop-j-preserved
loop-j-preserved c = next_behind _ _ _ _ c.loop-j.invariant (tested (goal.at.loop-j-preserved c).After-outshines ∙ c.if-outshines.false)

pub returns : goal.returns
returns c k h = c.loop-j.invariant k (omega arith) h

pub loop-j-init : goal.loop-j-init
loop-j-init c k l h = absurd (omega arith)
