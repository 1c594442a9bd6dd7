-- `span::near::near_code` meets its contract: a code that is settled on the steps is the HLG code, and a component of 0 has that of black.
use Rattle.std.proofs.Common.{◌≡◌, ℕ, ◌+◌, ◌*◌, ◌/◌, refl, arith}
use Rattle.hlg_steps.specs.StepTable.{step_table}
use Rattle.hlg.specs.Code.{hlg_code}
use Rattle.hlg.specs.Root.{LowRoot, HighRoot}
use Rattle.hlg.specs.Settled.{Settled}
use Rattle.hlg.proofs.CodeLaws.{code_black}
use Rattle.hlg.proofs.SettledLaws.{hinted_code, lent_code, room}
use Rattle.span.proofs.NearLaws.{settled_by, if_some}
use Rattle.span.proofs.near.near_code.Goals as goal

pub overflow_mul-low : goal.overflow_mul-low
overflow_mul-low c = omega (arith, room c.args.r c.args.g c.requires.0 c.requires.1)

pub overflow_mul-u : goal.overflow_mul-u
overflow_mul-u c = omega (arith, room c.args.r c.args.g c.requires.0 c.requires.1)

pub overflow_add-u : goal.overflow_add-u
overflow_add-u c = omega (arith, room c.args.r c.args.g c.requires.0 c.requires.1)

pub returns-then-is_settled : goal.returns-then-is_settled
returns-then-is_settled c =
    λ y low high.
    hinted_code step_table y c.args.r c.args.g _ _ _ refl low high (omega arith) (omega arith)
    (settled_by _ _ _ (c.is_settled.ensures c.if-is_settled.true))

pub returns-then-r-eq0 : goal.returns-then-r-eq0
returns-then-r-eq0 c = λ y low high. cc (code_black y)

pub returns : goal.returns
returns c =
    let r = c.args.r in
    let g = c.args.g in
    if_some (λ (d : ℕ). Settled step_table (r * g / 131072) ((r * g + 2 * r) / 131072) 64 1020 d)
    (λ (d : ℕ). (y : ℕ) → LowRoot g y → HighRoot (g + 2) y → d ≡ hlg_code y r)
    c.searched_code.result
    (λ d settled y low high. lent_code step_table y r g _ _ d refl low high (omega arith) (omega arith) settled (omega arith))
    c.searched_code.ensures
