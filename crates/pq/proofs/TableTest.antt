-- The test of the light table passes at every entry from 1 on, and its entries rise: by computation alone.
use lib.Dec.{T, ltb}
use lib.ListN.{drop}
use Rattle.laws.proofs.ComputedTests.{every_hinted, every_pair}
use Rattle.quantity.specs.Units.{units, ten_thousand}
use Rattle.pq.specs.Pq.{ratio_num, ratio_den}
use Rattle.pq.specs.LightTable.{light_table}
use Rattle.pq.proofs.PqTests.{entry_test}
use Rattle.pq.proofs.TableHints.{hints}

pub entries_pass : T (every_hinted entry_test 1 (drop 1 light_table) hints)
unfolding units ten_thousand ratio_num ratio_den light_table hints
entries_pass = tt

pub entries_rise : T (every_pair ltb light_table)
unfolding light_table
entries_rise = tt
