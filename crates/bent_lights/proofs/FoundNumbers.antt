-- The numbers of this enclosure that were found by trial on the light table. The computed test and a law show them; tools/slack.py tells how much room
-- each has.
use Prim.Native.Nat.{ℕ}

-- the light is tested at each position that is a multiple of this
abbrev pub points_apart : ℕ
points_apart = 14

-- the cells of the light table that hold the tested points
abbrev pub first_point_cell : ℕ
first_point_cell = 2194

abbrev pub last_point_cell : ℕ
last_point_cell = 2634
