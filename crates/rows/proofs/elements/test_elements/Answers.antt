-- `rows::elements::test_elements` multiplies a count that has passed its test.
use Rattle.std.proofs.Common.{sym, ◌∙◌, arith}
use Rattle.rows.proofs.ElementLaws.{elements_taken}
use Rattle.rows.proofs.elements.test_elements.Goals as goal

pub overflow_mul-elements : goal.overflow_mul-elements
overflow_mul-elements c = let v = elements_taken _ (sym c.refuses_count.ensures ∙ c.if-refuses_count.false) in omega arith
