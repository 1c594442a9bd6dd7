-- What passed tests say of the call on a row of floats, and its destination.
use Rattle.std.proofs.Common.{◌≡◌, ℕ, ◌-◌, ◌*◌, ◌≤◌, false, List, ◌++◌, length, take, drop, arith, Result, Ok}
use lib.Ieee.{Float, nan}
use Rattle.eetf.specs.Curve.{peak_read}
use Rattle.refusal.specs.declared.Refusal.{Refusal}
use Rattle.rows.specs.Answer.{host_number}
use Rattle.rows.proofs.AnswerLaws.{either, refused_not_converted}
use Rattle.rows.proofs.ElementLaws.{AcceptedElements, converted_after}
use Rattle.linear_light.specs.Conversion.{values, linear_code}
use Rattle.linear_light.specs.Row.{linear_into}
use Rattle.linear_light.proofs.RowLaws.{host_number_fits}
use Rattle.linear_light.proofs.RowLaws as linear
use Rattle.pq_hlg.specs.Pixel.{peak_refused}
use Rattle.pq_hlg.specs.Linear.{linear_row_answer, linear_after}
use Rattle.pq_hlg.proofs.TestLaws.{peak_taken}

-- a peak that is taken is read as it is
pub peak_read_lem : (peak : ℕ) → peak_refused peak ≡ false → peak_read peak ≡ peak
peak_read_lem peak e = omega (arith, peak_taken peak e)

module _ (peak : ℕ) (row : List Float) (bytes first end : ℕ) where
  pub accepted : linear_row_answer peak row bytes first end ≡ Ok tt → (peak_refused peak ≡ false) × AcceptedElements (length row) bytes first end
  unfolding linear_row_answer
  accepted =
      let P : Result (Unit {0}) Refusal → Type 0 = λ a. a ≡ Ok tt → (peak_refused peak ≡ false) × AcceptedElements (length row) bytes first end in
      either P (peak_refused peak) _ _ (λ _. refused_not_converted) (λ p h. (p, linear.accepted row bytes first end h))

  pub number_fits : host_number (linear_row_answer peak row bytes first end) ≤ 6291456
  unfolding linear_row_answer
  number_fits = either (λ a. host_number a ≤ 6291456) (peak_refused peak) _ _ (λ _. omega arith) (λ _. host_number_fits row bytes first end)

-- the destination of a call that converts
pub converted_row : (peak : ℕ) (row : List Float) (dst : List ℕ) (first end : ℕ) (ys : List ℕ) (to : ℕ)
    → linear_row_answer peak row (length dst) first end ≡ Ok tt
    → ys ≡ linear_into (linear_code (peak_read peak)) (take (length row - 3 * first) (drop (3 * first) row)) (take (to - 6 * first) (drop (6 * first) dst))
    → to ≡ 6 * end
    → take (6 * first) dst ++ (ys ++ drop (to - 6 * first) (drop (6 * first) dst)) ≡ linear_after peak row dst first end
unfolding linear_after
converted_row peak row dst first end ys to e y at_end =
    let tested = accepted peak row (length dst) first end e in
    converted_after values nan (linear_code peak) row dst first end ys to e tested.1 at_end (rw (peak_read_lem peak tested.0) at y)
