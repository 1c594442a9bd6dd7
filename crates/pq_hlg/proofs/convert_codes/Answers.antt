-- `pq_hlg::convert_codes` meets its contract: codes that have passed are read as they are.
use Rattle.std.proofs.Common.{sym, ◌∙◌}
use Rattle.pq_hlg.specs.Pixel.{ycbcr_answer}
use Rattle.pq_hlg.proofs.TestLaws.{code_read_lem}
use Rattle.pq_hlg.proofs.convert_codes.Goals as goal

pub returns : goal.returns
unfolding ycbcr_answer
returns c =
    let r = sym c.refuses.ensures ∙ c.if-refuses.false in
    let g = sym c.refuses-else-refuses.ensures ∙ c.if-refuses-2.false in
    let b = sym c.refuses-else-refuses-2.ensures ∙ c.if-refuses-3.false in
    let codes = rw (code_read_lem _ r, code_read_lem _ g, code_read_lem _ b) at c.ycbcr_codes.ensures in
    sym (simp (r, g, b, sym codes.0, sym codes.1, sym codes.2))
