-- `span::row::CodeRow::at` meets its contract: the samples of a part of six bytes are those of the row.
use Rattle.std.proofs.Common.{◌∙◌, ◌*◌, arith}
use Rattle.quantity.specs.Component.{red, green, blue}
use Rattle.quantity.specs.Units.{units, ten_thousand}
use Rattle.rows.proofs.RowLaws.{pixel_of_part}
use Rattle.span.proofs.MappingLaws.{pixel_is}
use Rattle.span.proofs.row.CodeRowRow.at.Goals as goal

pub returns-clause-given : goal.returns-clause-given
returns-clause-given c =
    let s = c.pixel_of.ensures.samples in
    let j = c.args.j in
    pixel_is _ s.0 s.1 s.2 ∙ pixel_of_part c.args.self.now.codes.now (6 * j) _ 0 j (omega arith) (omega arith)

pub returns-clause-bounds : goal.returns-clause-bounds
unfolding units ten_thousand
returns-clause-bounds c =
    let b = c.pixel_of.ensures.bounds in
    elim [ red ↦ omega (arith, b.0) | green ↦ omega (arith, b.1) | blue ↦ omega (arith, b.2) ]
