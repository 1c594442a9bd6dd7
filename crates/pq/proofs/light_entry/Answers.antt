-- `pq::light_entry` meets its contract: the entry of the table, which obeys the rule.
use mathlib.Core.Path.{◌≡◌, sym, ◌∙◌, subst}
use Prim.Native.Nat.{min}
use Rattle.pq.specs.Pq.{IsEntry}
use Rattle.pq.specs.LightTable.{light_entry}
use Rattle.pq.proofs.EntryLaws.{entry_rule, entry_read}
use Rattle.pq.proofs.light_entry.Goals as goal

pub returns : goal.returns
returns c =
    let k = c.args.k in
    let same : c.entry_in.result.0 ≡ light_entry k = c.entry_in.ensures ∙ entry_read _ k c.light_table.ensures in
    (same, subst (IsEntry (min k 3504)) (sym same) (entry_rule k))
