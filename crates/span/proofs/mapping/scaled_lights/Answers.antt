-- `span::mapping::scaled_lights` meets its contract: what the brightest light keeps, the others keep.
use Rattle.std.proofs.Common.{arith}
use Rattle.quantity.specs.Component.{components}
use Rattle.span.proofs.MappingLaws.{unbent_light, component_at_most}
use Rattle.span.proofs.mapping.scaled_lights.Goals as goal

pub returns-then-m1-m2 : goal.returns-then-m1-m2
returns-then-m1-m2 g c =
    let x = c.args.x in
    λ i. unbent_light (components x i) _ _ (omega (arith, c.requires.lights.0, component_at_most x i)) c.if-m1-m2.true
