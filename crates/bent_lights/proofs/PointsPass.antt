-- The points, by computation alone: so many to a declaration as its steps allow.
use Prim.Native.Nat.{ℕ, ◌+◌, ◌-◌}
use lib.Dec.{T}
use Rattle.quantity.specs.Units.{units, ten_thousand}
use Rattle.pq.specs.Pq.{ratio_num, ratio_den}
use Rattle.pq.specs.LightTable.{light_table}
use Rattle.pq.proofs.TableHints.{hints}
use Rattle.bent_lights.proofs.FoundNumbers.{first_point_cell, last_point_cell}
use Rattle.bent_lights.proofs.PointTests.{every_point}

-- the second declaration's first cell; each has the entry that ends its last cell too
abbrev pub middle_cell : ℕ
middle_cell = 2415

pub points_below : T (every_point first_point_cell (middle_cell + 1 - first_point_cell))
unfolding units ten_thousand ratio_num ratio_den light_table hints
points_below = tt

pub points_above : T (every_point middle_cell (last_point_cell + 2 - middle_cell))
unfolding units ten_thousand ratio_num ratio_den light_table hints
points_above = tt
