-- `span::cell::cell_of` meets its contract: a light below 10,000 cd/m2 stands in the cell of the last entry that is at most it.
use Rattle.std.proofs.Common.{rules, nat_le}
use Rattle.laws.proofs.LargestLaws.{at_most_falls}
use Rattle.pq.specs.LightTable.{light_entry}
use Rattle.pq.proofs.EntryLaws.{entries_grow}
use Rattle.span.proofs.LinearLaws.{searched_cell}
use Rattle.span.proofs.cell.cell_of.Goals as goal

pub returns : goal.returns
returns c =
    let l = c.args.l in
    searched_cell l _ c.requires
    (c.largest.ensures (λ k. nat_le (light_entry k) l) (at_most_falls light_entry l entries_grow) (λ k b p q e. search rules))
