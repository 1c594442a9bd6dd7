-- `content_light::row::BoundedRow::position_of` meets its contract: the pixel is read from six bytes of the row.
use Rattle.std.proofs.Common.{ap, ◌∙◌, arith, ◌+◌, ◌-◌, ◌*◌}
use Rattle.position.specs.Code.{code_position}
use Rattle.pixel.specs.Conversion.{brightest_position}
use Rattle.rows.proofs.RowLaws.{pixel_of_part}
use Rattle.content_light.proofs.row.BoundedRow.position_of.Goals as goal

pub returns : goal.returns
unfolding brightest_position
returns c =
    let row = c.args.self.now in
    let j = c.args.j in
    let p = c.pixel_of.ensures.samples in
    let part = pixel_of_part row.bytes.now (6 * j) (6 * j + 6 - 6 * j) 0 j (omega arith) (omega arith) in
    c.code_position.ensures
    ∙ ap (code_position row.format) (c.brightest.ensures ∙ rw (p.0, p.1, p.2))
    ∙ ap (brightest_position row.format) part
