-- `pq_hlg::linear::convert_linear_pixel` meets its contract: a taken peak is read as it is, and the distances of an accepted pixel are their theorem.
use Rattle.std.proofs.Common.{◌≡◌, false, not, Ok, sym, ap, ◌∙◌}
use Rattle.refusal.specs.declared.Refusal.TheVariants.{NotFinite}
use Rattle.linear_light.specs.LinearLight.{finite}
use Rattle.linear_light.specs.Conversion.{values, linear_code}
use Rattle.linear_distance.proofs.Voted.{voted}
use Rattle.pq_hlg.specs.Pixel.{peak_refused}
use Rattle.pq_hlg.specs.Linear.{linear_pixel_answer, VotedLinearWhere}
use Rattle.pq_hlg.proofs.TestLaws.{peak_taken, peak_passed, three_passed, rgb_is}
use Rattle.pq_hlg.proofs.LinearLaws.{peak_read_lem}
use Rattle.pq_hlg.proofs.linear.convert_linear_pixel.Goals as goal
use Rattle.pq_hlg.proofs.linear.convert_linear_pixel.Goals.{After-linear_codes}

taken : (c : After-linear_codes) → peak_refused c.args.peak ≡ false
taken c = peak_passed c.args.peak (sym c.in_ok-test_peak.ensures)

pub returns-clause-answer : goal.returns-clause-answer
unfolding linear_pixel_answer
returns-clause-answer c =
    let p = c.args.p in
    let peak = taken (goal.at.returns-clause-answer c).After-linear_codes in
    let codes = rw (peak_read_lem c.args.peak peak) at c.linear_codes.ensures in
    let found = rgb_is c.linear_codes.result (linear_code c.args.peak (values p.red p.green p.blue)) codes.0 codes.1 codes.2 in
    let tests = c.in_ok-test_values.ensures in
    sym (simp peak (three_passed (not (finite p.red)) (not (finite p.green)) (not (finite p.blue)) (NotFinite 0) (NotFinite 1) (NotFinite 2) _ tests
    ∙ ap Ok (sym found)))

pub returns-clause-voted : goal.returns-clause-voted
unfolding VotedLinearWhere
returns-clause-voted c =
    let peak = c.args.peak in
    voted peak _ (peak_taken peak (taken (goal.at.returns-clause-voted c).After-linear_codes)).1
