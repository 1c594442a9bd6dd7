-- The piece of text that each kind of row gives.
use mathlib.Core.Path.{sym, ap, ◌∙◌, refl}
use Rattle.std.specs.Prelude.{Ok}
use Rattle.converted_title.proofs.NextRowLaws.{listed}
use Rattle.converted_title.proofs.next_row.list_next_row.Goals as goal

pub returns-in-Ok-Whole : goal.returns-in-Ok-Whole
returns-in-Ok-Whole c =
    let a = c.args in
    let called = c.convert_next_row in
    let text = c.list_row in
    let next = sym called.ensures.0 ∙ c.in-Ok-Whole.is ∙ ap Ok c.in-Ok-Whole.field-0-is in
    let codes = simp next at called.ensures.1 in
    rw next
    (listed a.layout.source a.left a.row.now a.codes.now a.text.now codes text.ensures.0 text.ensures.1 c.saturating_sub.ensures)

pub returns-in-Ok-End : goal.returns-in-Ok-End
returns-in-Ok-End c =
    let called = c.convert_next_row in
    let next = sym called.ensures.0 ∙ c.in-Ok-End.is ∙ ap Ok c.in-Ok-End.field-0-is in
    rw next (record { answer = refl; of_codes = simp next at called.ensures.1; of_text = refl })

pub returns-in-Err : goal.returns-in-Err
returns-in-Err c =
    let called = c.convert_next_row in
    let text = rw c.number.ensures at c.list_refusal.ensures in
    let next = sym called.ensures.0 ∙ c.in-Err.is in
    rw next (record { answer = rw text.0; of_codes = simp next at called.ensures.1; of_text = text.1 })
