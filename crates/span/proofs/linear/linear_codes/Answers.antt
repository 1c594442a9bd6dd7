-- `span::linear::linear_codes` meets its contract: each stage hands on the converted pixel's values.
use Rattle.std.proofs.Common.{◌≡◌, ℕ, rules, ap, ◌∙◌}
use Rattle.quantity.specs.Component.{red, green, blue, Pixel, components}
use Rattle.pixel.specs.Conversion.{code_of}
use Rattle.pixel.proofs.PixelLaws.{lights_mapped_at_most}
use Rattle.linear_light.specs.LinearLight.{whole_light}
use Rattle.linear_light.specs.Conversion.{values, lights_of, linear_code}
use Rattle.linear_light.proofs.ValueLaws.{whole_at_most}
use Rattle.span.specs.Block.{IsShown, codes_of}
use Rattle.span.specs.Span.{linear_codes_under}
use Rattle.span.specs.Linear.{mapped_lights}
use Rattle.span.proofs.MappingLaws.{pixel_is, shown_by}
use Rattle.span.proofs.linear.linear_codes.Goals as goal
use Rattle.span.proofs.linear.linear_codes.Goals.{After-map_lights-m}

pub map_lights-m-requires : goal.map_lights-m-requires
map_lights-m-requires c =
    let r : c.map.result.red ≡ whole_light c.args.p.red = search rules in
    let g : c.map.result.green ≡ whole_light c.args.p.green = search rules in
    let b : c.map.result.blue ≡ whole_light c.args.p.blue = search rules in
    elim [ red ↦ rw r (whole_at_most _) | green ↦ rw g (whole_at_most _) | blue ↦ rw b (whole_at_most _) ]

shown : (c : After-map_lights-m) → IsShown c.map_lights-m.result
shown c = shown_by c.map_lights-m.result _ c.map_lights-m.ensures (λ i. lights_mapped_at_most _ _ i)

pub root_of-requires : goal.root_of-requires
root_of-requires c = shown (goal.at.root_of-requires c).After-map_lights-m

pub near_codes-requires : goal.near_codes-requires
near_codes-requires c = (shown (goal.at.near_codes-requires c).After-map_lights-m, c.root_of.ensures)

pub returns : goal.returns
unfolding linear_code code_of
returns c =
    let p = c.args.p in
    let v = values p.red p.green p.blue in
    let r : c.map.result.red ≡ whole_light p.red = search rules in
    let g : c.map.result.green ≡ whole_light p.green = search rules in
    let b : c.map.result.blue ≡ whole_light p.blue = search rules in
    let same : components c.near_codes.result ≡ linear_codes_under c.args.peak v =
    c.near_codes.ensures
    ∙ ap codes_of (c.map_lights-m.ensures ∙ ap (mapped_lights c.of.result.peak) (pixel_is (lights_of v) r g b))
    ∙ ap (λ (k : ℕ). codes_of (mapped_lights k (lights_of v))) c.of.ensures in
    (ap (λ (q : Pixel). q red) same, ap (λ (q : Pixel). q green) same, ap (λ (q : Pixel). q blue) same)
