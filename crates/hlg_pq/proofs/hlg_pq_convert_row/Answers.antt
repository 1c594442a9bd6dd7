-- `hlg_pq::hlg_pq_convert_row` meets its contract: the number of the row call's answer.
use Rattle.rows.proofs.AnswerLaws.{host_number_is, host_number_fits}
use Rattle.hlg_pq.specs.Pixel.{hlg_refused}
use Rattle.hlg_pq.proofs.hlg_pq_convert_row.Goals as goal

pub returns : goal.returns
returns c =
    let called = c.convert_row.ensures in
    (host_number_is c.host_number.ensures called.0 (host_number_fits hlg_refused _ _ _ _), called.1)
