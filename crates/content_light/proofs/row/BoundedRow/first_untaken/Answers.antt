-- `content_light::row::BoundedRow::first_untaken` meets its contract: where the bounds are taken, all samples are.
use native.Mathlib.Omega.{arith}
use Prim.Native.Nat.{◌/◌}
use lib.ListN.{length}
use Rattle.rows.proofs.AnswerLaws.{none_before}
use Rattle.content_light.proofs.BoundLaws.{all_taken}
use Rattle.content_light.proofs.row.BoundedRow.first_untaken.Goals as goal

pub returns-then-self-taken : goal.returns-then-self-taken
returns-then-self-taken c =
    let row = c.args.self.now in
    let taken = c.of-taken.ensures in
    none_before
    (all_taken row.bounded _ _ (length row.bytes.now / 2) (omega (arith, c.requires)) (omega (arith, taken.0)) (omega (arith, taken.1)))
    (omega arith)
