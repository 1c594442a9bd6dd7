-- The numbers of this enclosure that were found by trial on the light table. The computed test shows them; tools/slack.py tells how much room each has.
use Prim.Native.Nat.{ℕ}

-- a light at the position of a full-range code is enclosed within a 3,000th part of itself and so many units
abbrev pub light_part : ℕ
light_part = 3000

abbrev pub units_below : ℕ
units_below = 9

abbrev pub units_above : ℕ
units_above = 5
