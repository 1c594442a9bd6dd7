-- `hlg_steps::step_of` meets its contract: the entry read is the step, of which the rule is proved at every code.
use mathlib.Core.Path.{◌≡◌, sym, subst, ◌∙◌}
use Prim.Native.Nat.{max, min}
use Rattle.hlg_steps.specs.Steps.{IsStep}
use Rattle.hlg_steps.specs.StepTable.{step}
use Rattle.hlg_steps.proofs.StepLaws.{step_read, step_rule_clamped}
use Rattle.hlg_steps.proofs.step_of.Goals as goal

pub returns : goal.returns
returns c =
    let d = c.args.d in
    let same : c.step_in.result.0 ≡ step d = c.step_in.ensures ∙ step_read _ d c.step_table.ensures in
    (same, subst (IsStep (min (max d 65) 1019)) (sym same) (step_rule_clamped d))
