-- `srgb_hlg::srgb_hlg_convert_row` meets its contract: the number of the row call's answer.
use Rattle.std.proofs.Common.{arith}
use Rattle.refusal.specs.declared.Refusal.TheVariants.{ElementCount}
use Rattle.rows.proofs.AnswerLaws.{host_number_is}
use Rattle.rows.proofs.ElementLaws.{number_fits}
use Rattle.srgb_hlg.proofs.srgb_hlg_convert_row.Goals as goal

pub returns : goal.returns
returns c =
    let called = c.convert_row.ensures in
    (host_number_is c.host_number.ensures called.0 (number_fits ElementCount _ _ _ _ (omega arith)), called.1)
