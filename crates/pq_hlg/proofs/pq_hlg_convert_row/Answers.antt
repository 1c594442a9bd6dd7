-- `pq_hlg::pq_hlg_convert_row` meets its contract: the number of the row call's answer.
use mathlib.Core.Path.{sym}
use Rattle.rows.proofs.AnswerLaws.{host_number_is}
use Rattle.pq_hlg.proofs.TestLaws.{row_number_fits}
use Rattle.pq_hlg.proofs.pq_hlg_convert_row.Goals as goal

pub returns : goal.returns
returns c =
    let called = c.convert_row.ensures in
    let source = c.host_source.ensures in
    rw (sym source) (host_number_is c.host_number.ensures called.0 (row_number_fits _ _ _ _ _), called.1)
