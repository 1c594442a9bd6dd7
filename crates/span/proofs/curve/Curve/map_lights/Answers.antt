-- `span::curve::Curve::map_lights` meets its contract: the brightest light and what it is bent to give each component.
use Rattle.span.proofs.MappingLaws.{lights_bounds, lights_mapped}
use Rattle.span.proofs.curve.Curve.map_lights.Goals as goal

pub scaled_lights-requires-clause-lights : goal.scaled_lights-requires-clause-lights
scaled_lights-requires-clause-lights c = lights_bounds c.args.self.peak c.args.x c.brightest-m1.ensures c.bent-m2.ensures c.requires

pub returns : goal.returns
returns c = lights_mapped c.args.self.peak c.args.x c.brightest-m1.ensures c.bent-m2.ensures _ c.scaled_lights.ensures
