-- `span::near::searched_code` meets its contract: the last step that is reached is that of the code, and the next is missed.
use Rattle.std.proofs.Common.{◌≡◌, rules, nat_le, arith}
use Rattle.laws.specs.Largest.{largest}
use Rattle.laws.proofs.LargestLaws.{at_most_falls}
use Rattle.hlg_steps.specs.StepTable.{step}
use Rattle.hlg_steps.proofs.StepLaws.{steps_grow}
use Rattle.span.proofs.NearLaws.{settled_search}
use Rattle.span.proofs.near.searched_code.Goals as goal
use Rattle.span.proofs.near.searched_code.Goals.{else-d-lt1019-via-then-d-lt1019+else-step_of-u, else-d-lt1019-via-else-d-lt1019}

pub returns : goal.returns
returns c =
    let s = c.args.s in
    let e : c.largest-d.result ≡ largest (λ k. nat_le (step k) s) 64 955 =
    c.largest-d.ensures (λ d. nat_le (step d) s) (at_most_falls step s steps_grow) (λ d b p q h. search rules) in
    elim c.else-d-lt1019.branch [
      | else-d-lt1019-via-then-d-lt1019+else-step_of-u w ↦ settled_search s c.args.u _ e (λ k. omega (arith, w.step_of.ensures.0, w.if-step_of-u.false))
      | else-d-lt1019-via-else-d-lt1019 w ↦ settled_search s c.args.u _ e (λ k. omega (arith, w.if-d-lt1019.false))
    ]
