-- `return_span::scene::Rooted::of` meets its contract: scene lights read of the table are those of the samples, and have room to be weighed.
use Rattle.std.proofs.Common.{◌∙◌}
use Rattle.inverse_oetf.proofs.SceneLaws.{scene_read_lem}
use Rattle.return_span.proofs.CodesLaws.{within}
use Rattle.return_span.proofs.scene.Rooted.of.Goals as goal

pub weigh-requires : goal.weigh-requires
weigh-requires c =
    let p = c.args.p in
    let t = c.scene_table-table.ensures in (
      within p.red (c.scene_light_in.ensures ∙ scene_read_lem _ p.red t),
      within p.green (c.scene_light_in-2.ensures ∙ scene_read_lem _ p.green t),
      within p.blue (c.scene_light_in-3.ensures ∙ scene_read_lem _ p.blue t),
    )

pub returns : goal.returns
returns c =
    let p = c.args.p in
    let t = c.scene_table-table.ensures in
    record {
      red = c.scene_light_in.ensures ∙ scene_read_lem _ p.red t;
      green = c.scene_light_in-2.ensures ∙ scene_read_lem _ p.green t;
      blue = c.scene_light_in-3.ensures ∙ scene_read_lem _ p.blue t;
      root = rw c.weigh.ensures.0 at c.roots_of.ensures;
    }
