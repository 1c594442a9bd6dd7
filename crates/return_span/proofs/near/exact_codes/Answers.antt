-- `return_span::near::exact_codes` meets its contract: scene lights of codes are read as they are, and the codes are those of their display lights.
use Rattle.std.proofs.Common.{◌≡◌, ap, ◌∙◌, arith}
use Rattle.inverse_oetf.proofs.SceneLaws.{last_light}
use Rattle.ootf.specs.Light.{scene_read}
use Rattle.inverse_eotf.specs.Code.{pq_code}
use Rattle.return_span.proofs.near.exact_codes.Goals as goal

pub returns : goal.returns
returns c =
    let a = c.args.scene in
    let r : scene_read a.red ≡ a.red = omega (arith, last_light, c.requires.0) in
    let g : scene_read a.green ≡ a.green = omega (arith, last_light, c.requires.1) in
    let b : scene_read a.blue ≡ a.blue = omega (arith, last_light, c.requires.2) in
    let lights = rw (r, g, b) at c.display_lights-lights.ensures in
    record {
      red = c.pq_code_of.ensures ∙ ap pq_code lights.red.0;
      green = c.pq_code_of-2.ensures ∙ ap pq_code lights.green.0;
      blue = c.pq_code_of-3.ensures ∙ ap pq_code lights.blue.0;
    }
