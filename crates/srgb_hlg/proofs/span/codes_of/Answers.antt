-- `srgb_hlg::span::codes_of` meets its contract: the code of each component's shares of the lights is the pixel's.
use Rattle.quantity.specs.Component.{red, green, blue}
use Rattle.srgb_hlg.proofs.CodesLaws.{shares_fit, weight_of, lights_le, code_is}
use Rattle.srgb_hlg.proofs.span.codes_of.Goals as goal

pub code-requires : goal.code-requires
code-requires c =
    let p = c.requires in
    (shares_fit _ (lights_le _ c.light_table-table.ensures _ _ _ p.0 p.1 p.2) red, weight_of red)

pub code-requires-2 : goal.code-requires-2
code-requires-2 c =
    let p = c.requires in
    (shares_fit _ (lights_le _ c.light_table-table.ensures _ _ _ p.0 p.1 p.2) green, weight_of green)

pub code-requires-3 : goal.code-requires-3
code-requires-3 c =
    let p = c.requires in
    (shares_fit _ (lights_le _ c.light_table-table.ensures _ _ _ p.0 p.1 p.2) blue, weight_of blue)

pub returns : goal.returns
returns c =
    let t = c.light_table-table.ensures in
    let p = c.requires in
    record {
      red = code_is _ t _ _ _ p.0 p.1 p.2 red c.code.ensures;
      green = code_is _ t _ _ _ p.0 p.1 p.2 green c.code-2.ensures;
      blue = code_is _ t _ _ _ p.0 p.1 p.2 blue c.code-3.ensures;
    }
