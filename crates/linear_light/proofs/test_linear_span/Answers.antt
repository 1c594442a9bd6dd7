-- `linear_light::test_linear_span` meets its contract: the tests of the elements come first, and then what the search finds decides.
use Rattle.std.proofs.Common.{rules, ◌≡◌, ℕ, ◌-◌, ◌*◌, ◌/◌, min, cond, length, sym, ap, ◌∙◌, arith, Result, Err}
use Rattle.refusal.specs.declared.Refusal.{Refusal}
use Rattle.refusal.specs.declared.Refusal.TheVariants.{ValueCount, DestinationLength, Span, NotFinite}
use Rattle.rows.specs.Answer.{before, destination_refused, span_refused}
use Rattle.rows.specs.Element.{and_then}
use Rattle.rows.proofs.AnswerLaws.{before_some, before_none}
use Rattle.rows.proofs.ElementLaws.{AcceptedElements, accepted}
use Rattle.linear_light.specs.Row.{values_refused, first_not_finite, linear_span_answer}
use Rattle.linear_light.proofs.RowLaws.{tests_then}
use Rattle.linear_light.proofs.test_linear_span.Goals as goal
use Rattle.linear_light.proofs.test_linear_span.Goals.{After-first_not_finite, In_ok-test_elements}

tested : (c : In_ok-test_elements) → let a = c.args in AcceptedElements (length a.row.now) a.bytes a.span.start a.span.end
tested c = let a = c.args in accepted ValueCount (length a.row.now) a.bytes a.span.start a.span.end (sym c.test_elements.ensures ∙ c.in_ok-test_elements.was)

-- what is found is the first value of the span that is no number
found : (c : After-first_not_finite) → let a = c.args in
    c.first_not_finite.result ≡ before (3 * a.span.end) (first_not_finite a.row.now (3 * a.span.start) (3 * (a.span.end - a.span.start)))
found c =
    let a = c.args in
    let t = tested (goal.at.After-first_not_finite c).In_ok-test_elements in
    let end : min (3 * a.span.end) (length a.row.now) ≡ 3 * a.span.end = omega arith in
    let count : 3 * a.span.end - 3 * a.span.start ≡ 3 * (a.span.end - a.span.start) = omega arith in
    c.first_not_finite.ensures ∙ simp (end, count)

pub overflow_mul-span : goal.overflow_mul-span
overflow_mul-span c = let t = tested (goal.at.overflow_mul-span c).In_ok-test_elements in omega arith

pub overflow_mul-span-2 : goal.overflow_mul-span-2
overflow_mul-span-2 c = let t = tested (goal.at.overflow_mul-span-2 c).In_ok-test_elements in omega arith

-- test after test: what passed the tests of the elements is answered by what follows them, and what did not is refused by them
passed : (c : In_ok-test_elements) (further : Result (Unit {0}) Refusal) → let a = c.args in let n = length a.row.now in
    further ≡ cond (values_refused n) (Err ValueCount)
    (cond (destination_refused a.bytes (2 * n)) (Err DestinationLength) (cond (span_refused (n / 3) a.span.start a.span.end) (Err Span) further))
passed c further =
    let a = c.args in
    ap (λ (x : Result (Unit {0}) Refusal). and_then x further) (sym c.in_ok-test_elements.was ∙ c.test_elements.ensures)
    ∙ tests_then a.row.now a.bytes a.span.start a.span.end further

pub returns-in_err-test_elements : goal.returns-in_err-test_elements
unfolding linear_span_answer
returns-in_err-test_elements c =
    let a = c.args in
    rw (← tests_then a.row.now a.bytes a.span.start a.span.end _)
    (simp (sym c.test_elements.ensures, c.in_err-test_elements.was) (search rules))

-- the place by an equation of numbers, for the reason that `tests_then` gives
pub returns-in-Some : goal.returns-in-Some
unfolding linear_span_answer
returns-in-Some c =
    let f = before_some _ _ (sym (found (goal.at.returns-in-Some c).After-first_not_finite) ∙ c.in-Some.is) in
    rw (← passed (goal.at.returns-in-Some c).In_ok-test_elements _) (simp (f.0, f.1) (ap (λ (i : ℕ). Err (NotFinite i)) (omega arith)))

pub returns-in-None : goal.returns-in-None
unfolding linear_span_answer
returns-in-None c =
    let f = before_none _ _ (sym (found (goal.at.returns-in-None c).After-first_not_finite) ∙ c.in-None.is) in
    rw (← passed (goal.at.returns-in-None c).In_ok-test_elements _) (simp f)
