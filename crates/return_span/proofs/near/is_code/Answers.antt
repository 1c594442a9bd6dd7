-- `return_span::near::is_code` meets its contract: the display light reaches the threshold of the code and misses the next one.
use Rattle.std.proofs.Common.{rules, ◌≡◌, Bool, true, false, not, true≢false, ◌+◌, ◌≤◌, refl, sym, ◌∙◌, arith}
use Rattle.quantity.specs.Units.{ten_thousand}
use Rattle.inverse_eotf.proofs.TableLaws.{threshold_le}
use Rattle.return_span.proofs.NearLaws.{code_between, reached_by_comparison, missed_by_comparison}
use Rattle.return_span.proofs.near.is_code.Goals as goal
use Rattle.return_span.proofs.near.is_code.Goals.{then-contains, else-contains}

not_true : (b : Bool) → not b ≡ true → b ≡ false
not_true true e = sym e
not_true false e = refl

pub returns-then-d-eq64 : goal.returns-then-d-eq64
returns-then-d-eq64 c =
    elim c.if-contains.branch [
      | then-contains w ↦ λ t.
          let a = c.args in
          let table = c.threshold_table-table in
          let range : (64 ≤ a.d) × (a.d ≤ 939) = search (rules, w.if-contains.true, c.contains.ensures.cases) in
          let next = w.threshold_in in
          let over : next.result.0 ≤ ten_thousand =
          rw next.ensures (threshold_le table.result.now (a.d + 1) table.ensures (omega (arith, range.0)) (omega (arith, range.1))) in
          let missed =
          missed_by_comparison a.y a.s next.result.0 c.requires.0 c.requires.1 over w.has_light.ensures
          (not_true w.has_light.result (sym w.value-is ∙ c.if-not-has_light.true)) in
          code_between table.result.now _ a.d table.ensures range.0 range.1 (λ h. absurd (omega (arith, c.if-d-eq64.true)))
          (omega (arith, missed, next.ensures))
      | else-contains w ↦ absurd (true≢false (sym c.if-not-has_light.true ∙ w.value-is ∙ w.if-contains.false))
    ]

pub returns-else-d-eq64 : goal.returns-else-d-eq64
returns-else-d-eq64 c =
    elim c.if-contains.branch [
      | then-contains w ↦ λ t.
          let a = c.args in
          let table = c.threshold_table-table in
          let range : (64 ≤ a.d) × (a.d ≤ 939) = search (rules, w.if-contains.true, c.contains.ensures.cases) in
          let next = w.threshold_in in
          let over : next.result.0 ≤ ten_thousand =
          rw next.ensures (threshold_le table.result.now (a.d + 1) table.ensures (omega (arith, range.0)) (omega (arith, range.1))) in
          let missed =
          missed_by_comparison a.y a.s next.result.0 c.requires.0 c.requires.1 over w.has_light.ensures
          (not_true w.has_light.result (sym w.value-is ∙ c.if-not-has_light.true)) in
          let own = c.threshold_in-else-d-eq64 in
          let most : own.result.0 ≤ ten_thousand =
          rw own.ensures (threshold_le table.result.now a.d table.ensures (omega (arith, c.if-d-eq64.false, range.0)) (omega (arith, range.1))) in
          let reached = reached_by_comparison a.y a.s own.result.0 c.requires.0 c.requires.1 most c.has_light-else-d-eq64.ensures t in
          code_between table.result.now _ a.d table.ensures range.0 range.1 (λ h. omega (arith, reached, own.ensures)) (omega (arith, missed, next.ensures))
      | else-contains w ↦ absurd (true≢false (sym c.if-not-has_light.true ∙ w.value-is ∙ w.if-contains.false))
    ]
