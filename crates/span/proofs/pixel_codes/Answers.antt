-- `span::pixel_codes` meets its contract: each stage hands on the converted pixel's values.
use Rattle.std.proofs.Common.{◌≡◌, ℕ, ap, ◌∙◌}
use Rattle.quantity.specs.Component.{red, green, blue, Pixel, components}
use Rattle.pixel.specs.Conversion.{mapped, code, code_of}
use Rattle.pixel.proofs.PixelLaws.{mapped_at_most}
use Rattle.span.specs.Block.{IsShown, codes_of}
use Rattle.span.specs.Span.{codes_under}
use Rattle.span.proofs.MappingLaws.{shown_by}
use Rattle.span.proofs.pixel_codes.Goals as goal
use Rattle.span.proofs.pixel_codes.Goals.{After-map_codes-m}

shown : (c : After-map_codes-m) → IsShown c.map_codes-m.result
shown c = shown_by c.map_codes-m.result _ c.map_codes-m.ensures (λ i. mapped_at_most _ _ i)

pub root_of-requires : goal.root_of-requires
root_of-requires c = shown (goal.at.root_of-requires c).After-map_codes-m

pub near_codes-requires : goal.near_codes-requires
near_codes-requires c = (shown (goal.at.near_codes-requires c).After-map_codes-m, c.root_of.ensures)

pub returns : goal.returns
unfolding code code_of mapped
returns c =
    let p = c.args.p in
    let same : components c.near_codes.result ≡ codes_under c.args.source (components p) =
    c.near_codes.ensures ∙ ap codes_of c.map_codes-m.ensures
    ∙ ap (λ (k : ℕ). codes_of (mapped (record { peak = k; format = c.args.source.format }) (components p))) c.of.ensures in
    (ap (λ (q : Pixel). q red) same, ap (λ (q : Pixel). q green) same, ap (λ (q : Pixel). q blue) same)
