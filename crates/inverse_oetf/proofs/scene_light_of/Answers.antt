-- `inverse_oetf::scene_light_of` meets its contract: the entry read is the scene light, of which the rule is proved at every code.
use mathlib.Core.Path.{◌≡◌, sym, subst, ◌∙◌}
use Prim.Native.Nat.{max, min}
use Rattle.inverse_oetf.specs.SceneLight.{IsSceneLight}
use Rattle.inverse_oetf.specs.SceneTable.{scene_light}
use Rattle.inverse_oetf.proofs.SceneLaws.{scene_read_lem, scene_rule_clamped}
use Rattle.inverse_oetf.proofs.scene_light_of.Goals as goal

pub returns : goal.returns
returns c =
    let d = c.args.d in
    let same : c.scene_light_in.result.0 ≡ scene_light d = c.scene_light_in.ensures ∙ scene_read_lem _ d c.scene_table.ensures in
    (same, subst (IsSceneLight (min (max d 64) 1019)) (sym same) (scene_rule_clamped d))
