-- `rows::test_span` meets its contract: the span lies in the row, and what the search finds in it decides.
use Rattle.std.proofs.Common.{◌≡◌, ◌-◌, ◌*◌, ◌/◌, ◌≤◌, min, length, sym, ◌∙◌, arith, eq-eqb}
use Rattle.rows.specs.Answer.{outside, first_refused, before, destination_refused, span_answer}
use Rattle.rows.proofs.AnswerLaws.{before_some, before_none, span_taken}
use Rattle.rows.proofs.test_span.Goals as goal
use Rattle.rows.proofs.test_span.Goals.{Else-refuses_span, After-first_refused}

in_row : (c : Else-refuses_span) → let span = c.args.span in (span.start ≤ span.end) × (6 * span.end ≤ length c.args.row.now)
in_row c = let s = span_taken _ _ _ (sym c.refuses_span.ensures ∙ c.if-refuses_span.false) in (s.0, omega arith)

-- what is found is the first refused sample of the span
found : (c : After-first_refused) → let a = c.args in
    c.first_refused.result
    ≡ before (3 * a.span.end) (first_refused (outside a.taken.least a.taken.most) a.row.now (3 * a.span.start) (3 * (a.span.end - a.span.start)))
found c =
    let a = c.args in
    let s = in_row (goal.at.After-first_refused c).Else-refuses_span in
    let end : min (3 * a.span.end) (length a.row.now / 2) ≡ 3 * a.span.end = omega arith in
    let count : 3 * a.span.end - 3 * a.span.start ≡ 3 * (a.span.end - a.span.start) = omega arith in
    c.first_refused.ensures ∙ simp (end, count)

pub overflow_mul-span : goal.overflow_mul-span
overflow_mul-span c = let s = in_row (goal.at.overflow_mul-span c).Else-refuses_span in omega arith

pub overflow_mul-span-2 : goal.overflow_mul-span-2
overflow_mul-span-2 c = let s = in_row (goal.at.overflow_mul-span-2 c).Else-refuses_span in omega arith

pub returns-in-Some : goal.returns-in-Some
unfolding span_answer destination_refused
returns-in-Some c =
    let f = before_some _ _ (sym (found (goal.at.returns-in-Some c).After-first_refused) ∙ c.in-Some.is) in
    simp (
      sym c.refuses_count.ensures,
      c.if-refuses_count.false,
      eq-eqb _ _ c.if-bytes-row.false,
      sym c.refuses_span.ensures,
      c.if-refuses_span.false,
      f.1,
      f.0,
    )

pub returns : goal.returns
unfolding span_answer destination_refused
returns c =
    simp (
      sym c.refuses_count.ensures,
      c.if-refuses_count.false,
      eq-eqb _ _ c.if-bytes-row.false,
      sym c.refuses_span.ensures,
      c.if-refuses_span.false,
      before_none _ _ (sym (found (goal.at.returns c).After-first_refused) ∙ c.in_default.is),
    )
