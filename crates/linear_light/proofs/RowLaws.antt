-- Laws of rows of values, which are rows of elements: their tests, what passed tests say, and that the number for a host fits.
use Rattle.std.proofs.Common.{◌≡◌, ℕ, ◌+◌, ◌-◌, ◌*◌, ◌/◌, ◌<◌, ◌≤◌, Bool, cond, ltb, List, length, take, drop, ap, ◌∙◌, subst, arith, ltb-true}
use Rattle.std.proofs.Common.{Result, Ok, Err}
use lib.Ieee.{Float, nan}
use Rattle.refusal.specs.declared.Refusal.{Refusal}
use Rattle.refusal.specs.declared.Refusal.TheVariants.{ValueCount, DestinationLength, Span}
use Rattle.rows.specs.Answer.{host_number, destination_refused, span_refused}
use Rattle.rows.specs.Element.{elements_answer, elements_refused, and_then}
use Rattle.rows.proofs.AnswerLaws.{either}
use Rattle.rows.proofs.ElementLaws as elements
use Rattle.rows.proofs.ElementLaws.{AcceptedElements}
use Rattle.linear_light.specs.Conversion.{values}
use Rattle.linear_light.specs.Row.{linear_at, values_refused, first_not_finite, linear_span_answer}

module _ (row : List Float) (bytes first end : ℕ) where
  -- the tests of a call on elements, with 15 for a number of them that is refused, and then a further one. That refusal 15 tests the row's own number goes by
  -- an equation of numbers, so that a wrong number fails at it, and the right one written otherwise does not.
  pub tests_then : (further : Result (Unit {0}) Refusal) → let n = length row in
      and_then (elements_answer ValueCount n bytes first end) further ≡ cond (values_refused n) (Err ValueCount)
      (cond (destination_refused bytes (2 * n)) (Err DestinationLength) (cond (span_refused (n / 3) first end) (Err Span) further))
  tests_then further =
      let n = length row in
      let others = cond (destination_refused bytes (2 * n)) (Err DestinationLength) (cond (span_refused (n / 3) first end) (Err Span) further) in
      elements.tests_then ValueCount n bytes first end further
      ∙ ap (λ (refused : Bool). cond refused (Err ValueCount) others) (ap elements_refused (omega arith))

  pub accepted : linear_span_answer row bytes first end ≡ Ok tt → AcceptedElements (length row) bytes first end
  unfolding linear_span_answer
  accepted e = (elements.accepted_then ValueCount (length row) bytes first end _ (tests_then _ ∙ e)).0

  -- at most 16, and a value of the longest row
  pub host_number_fits : host_number (linear_span_answer row bytes first end) ≤ 6291456
  unfolding linear_span_answer
  host_number_fits =
      let i = first_not_finite row (3 * first) (3 * (end - first)) in
      let P : Result (Unit {0}) Refusal → Type 0 = λ a. host_number a ≤ 6291456 in
      subst P (tests_then _)
      (elements.number_fits_then ValueCount (length row) bytes first end _ (omega arith) (λ k.
      either P (ltb i (3 * end)) _ _ (λ d. omega (arith, ltb-true i (3 * end) d, k.within, k.longest)) (λ _. omega arith)))

pub pixel_of_part : (row : List Float) (b k i j : ℕ) → b + 3 * i ≡ 3 * j → 3 * i + 2 < k → linear_at (take k (drop b row)) i ≡ linear_at row j
pixel_of_part = elements.pixel_of_part values nan
