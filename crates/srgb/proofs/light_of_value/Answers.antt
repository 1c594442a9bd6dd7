-- `srgb::light_of_value` meets its contract: the entry read is the light, of which the rule is proved at every value.
use mathlib.Core.Path.{sym, subst}
use Prim.Native.Nat.{◌≤◌}
use native.Mathlib.Omega.{arith}
use Rattle.srgb.specs.Light.{IsLinearLight}
use Rattle.srgb.proofs.LightLaws.{light_read, light_rule}
use Rattle.srgb.proofs.light_of_value.Goals as goal

pub returns : goal.returns
returns c =
    let v = c.args.v in
    let h : v ≤ 255 = omega arith in
    let same = light_read c.light_table.result.now v c.light_table.ensures h in
    (same, subst (IsLinearLight v) (sym same) (light_rule v h))
