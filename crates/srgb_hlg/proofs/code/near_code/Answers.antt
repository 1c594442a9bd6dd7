-- `srgb_hlg::code::near_code` meets its contract: a code that the lights at both ends settle is that of every light between them.
use Rattle.std.proofs.Common.{◌≡◌, ℕ, ◌+◌, ◌-◌, ◌<◌, ◌≤◌, min, List, get_or, sym, ap, ◌∙◌, leb-true, arith}
use Rattle.laws.proofs.ThresholdLaws.{settled}
use Rattle.hlg_steps.specs.StepTable.{step_table, step}
use Rattle.hlg_steps.proofs.StepLaws.{step_read, steps_grow}
use Rattle.srgb.specs.Conversion.{oetf_code}
use Rattle.srgb_hlg.proofs.code.near_code.Goals as goal
use Rattle.srgb_hlg.proofs.code.near_code.Goals.{then-reached-eq0, else-reached-eq0}

-- the step at a place of a table that holds the steps
step_at : (t : List ℕ) (i d : ℕ) → t ≡ step_table → i ≤ 954 → d ≡ 65 + i → get_or t i 0 ≡ step d
step_at t i d e h k =
    let place : i ≡ min (d - 65) 954 = omega arith in
    ap (λ (n : ℕ). get_or t n 0) place ∙ step_read t d e

pub returns-then-low-steps : goal.returns-then-low-steps
unfolding oetf_code
returns-then-low-steps c s from to =
    let n = c.guess-reached.result in
    let low = c.args.low in
    let next = step_at c.step_table-steps.result.now n (64 + n + 1) c.step_table-steps.ensures (omega arith) (omega arith) in
    let own : 64 < 64 + n → step (64 + n) ≤ low =
    elim c.if-reached-eq0.branch [
      | then-reached-eq0 w ↦ λ h. absurd (omega arith)
      | else-reached-eq0 w ↦ λ h.
          let e = step_at c.step_table-steps.result.now (n - 1) (64 + n) c.step_table-steps.ensures (omega arith) (omega arith) in
          omega (arith, e, leb-true (get_or c.step_table-steps.result.now (n - 1) 0) low (sym w.value-is ∙ c.if-steps-reached.true))
    ] in
    settled step 64 955 steps_grow _ _ s (64 + n) from to (omega arith) (omega arith) own (λ _. omega (arith, next))
