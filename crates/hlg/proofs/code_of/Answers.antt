-- `hlg::code_of` meets its contract: the search over all codes is the definition, since the steps rise.
use Rattle.std.proofs.Common.{rules}
use Rattle.hlg_steps.specs.StepTable.{step}
use Rattle.hlg.specs.Code.{reaches, hlg_code}
use Rattle.hlg.proofs.CodeLaws.{code_falls}
use Rattle.hlg.proofs.code_of.Goals as goal

pub returns : goal.returns
unfolding hlg_code
returns c =
    let y = c.args.y in
    let r = c.args.r.0 in
    c.largest.ensures (λ d. reaches (step d) y r) (code_falls y r) (λ d b l h e. search rules)
