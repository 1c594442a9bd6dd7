-- `pq_hlg::linear::pq_hlg_convert_row_linear` meets its contract: the number of the row call's answer.
use Rattle.rows.proofs.AnswerLaws.{host_number_is}
use Rattle.pq_hlg.proofs.LinearLaws.{number_fits}
use Rattle.pq_hlg.proofs.linear.pq_hlg_convert_row_linear.Goals as goal

pub returns : goal.returns
returns c =
    let called = c.convert_linear_row.ensures in
    (host_number_is c.host_number.ensures called.0 (number_fits _ _ _ _ _), called.1)
