-- `srgb_hlg::code::exact_code` meets its contract: the search over all codes is the definition.
use Rattle.std.proofs.Common.{rules, ◌≡◌, refl}
use Rattle.laws.proofs.ThresholdLaws.{reached_by, reached_falls}
use Rattle.hlg_steps.specs.Steps.{step_in}
use Rattle.hlg_steps.specs.StepTable.{step_table, step}
use Rattle.hlg_steps.proofs.StepLaws.{step_read, steps_grow}
use Rattle.srgb.specs.Conversion.{oetf_code}
use Rattle.srgb_hlg.proofs.code.exact_code.Goals as goal

pub returns : goal.returns
unfolding oetf_code
returns c =
    c.largest.ensures (reached_by step 64 955 c.args.light) (reached_falls step 64 955 steps_grow c.args.light)
    (λ d b l h e. let k : step_in step_table d ≡ step d = step_read step_table d refl in rw (← k) (search rules))
