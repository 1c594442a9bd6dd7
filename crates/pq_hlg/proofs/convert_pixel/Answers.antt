-- `pq_hlg::convert_pixel` meets its contract: a taken peak is read as it is, and demand 3 of an accepted pixel is its theorem.
use Rattle.std.proofs.Common.{◌≡◌, false, Ok, sym, ap, ◌∙◌}
use Rattle.quantity.specs.Component.{components}
use Rattle.pixel.specs.Conversion.{code}
use Rattle.refusal.specs.declared.Refusal.TheVariants.{Sample}
use Rattle.distance.proofs.Theorem.{voted}
use Rattle.pq_hlg.specs.Pixel.{peak_refused, sample_refused, pixel_answer, VotedWhere}
use Rattle.pq_hlg.proofs.TestLaws.{peak_taken, peak_passed, three_passed, rgb_is, source_read_lem}
use Rattle.pq_hlg.proofs.convert_pixel.Goals as goal
use Rattle.pq_hlg.proofs.convert_pixel.Goals.{After-pixel_codes-codes}

taken : (c : After-pixel_codes-codes) → peak_refused c.args.source.peak ≡ false
taken c = peak_passed c.args.source.peak (sym c.in_ok-test_peak.ensures)

pub returns-clause-answer : goal.returns-clause-answer
unfolding pixel_answer
returns-clause-answer c =
    let source = c.args.source in
    let peak = taken (goal.at.returns-clause-answer c).After-pixel_codes-codes in
    let codes = rw (source_read_lem source peak) at c.pixel_codes-codes.ensures in
    let found = rgb_is c.pixel_codes-codes.result (code source (components c.args.p)) codes.0 codes.1 codes.2 in
    let refused = sample_refused source.format in
    let p = c.args.p in
    let tests = rw (c.of.ensures.0, c.of.ensures.1) at c.in_ok-test_pixel.ensures in
    sym (simp peak (three_passed (refused p.red) (refused p.green) (refused p.blue) (Sample 0) (Sample 1) (Sample 2) _ tests ∙ ap Ok (sym found)))

pub returns-clause-voted : goal.returns-clause-voted
unfolding VotedWhere
returns-clause-voted c =
    let source = c.args.source in
    voted source _ (peak_taken source.peak (taken (goal.at.returns-clause-voted c).After-pixel_codes-codes)).1
