-- `span::curve::Curve::map_codes` meets its contract: each stage gives the converted pixel's value.
use Rattle.quantity.specs.Component.{components}
use Rattle.span.proofs.MappingLaws.{bounds, codes_mapped}
use Rattle.span.proofs.curve.Curve.map_codes.Goals as goal

pub scaled_lights-requires-clause-lights : goal.scaled_lights-requires-clause-lights
scaled_lights-requires-clause-lights c =
    let a = c.args in
    let x = c.pixel_lights-x in
    bounds (record { peak = a.self.peak; format = a.format }) (components a.p) x.result.lights x.ensures.0 _ c.light_table.ensures a.self.shared.position
    c.brightest-m1.ensures x.ensures.1 c.bent_light-m2.ensures

pub returns : goal.returns
returns c =
    let a = c.args in
    let x = c.pixel_lights-x in
    codes_mapped (record { peak = a.self.peak; format = a.format }) (components a.p) x.result.lights x.ensures.0 _ c.light_table.ensures a.self.shared.position
    c.brightest-m1.ensures x.ensures.1 c.bent_light-m2.ensures _ c.scaled_lights.ensures
