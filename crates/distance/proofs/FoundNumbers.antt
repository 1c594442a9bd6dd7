-- The numbers of these proofs that were found by trial on the tables. A law or a computed test shows each; tools/slack.py tells how much room it has.
use Prim.Native.Nat.{ℕ, ◌*◌}

-- the light of entry 1, the least above black, and the least luminance of a pixel that has it, in ten-thousandths
abbrev pub least_light : ℕ
least_light = 81

abbrev pub least_luminance : ℕ
least_luminance = 593 * least_light

-- ---- units that the fractions of a result lie above and below its mapped number, and ten-thousandths those of the luminance
abbrev pub result_above : ℕ
result_above = 3

abbrev pub result_below : ℕ
result_below = 2

abbrev pub luminance_below : ℕ
luminance_below = 15000

abbrev pub luminance_above : ℕ
luminance_above = 30000

-- scene light that a unit takes at the least luminance, and that those units take above and below a step; in 1/2^40
abbrev pub slope_above : ℕ
slope_above = 2730

abbrev pub slope_below : ℕ
slope_below = 2560

abbrev pub room_above : ℕ
room_above = 30000

abbrev pub room_below : ℕ
room_below = 27000

-- ---- the bent light lies within this ratio of the engine's, and so does the light where nothing is bent
abbrev pub ratio_under : ℕ
ratio_under = 4130

abbrev pub ratio_over : ℕ
ratio_over = 4131

-- in scene light that takes no more than a part of so many
abbrev pub ratio_part : ℕ
ratio_part = 3525

-- positions that the bent signal lies off the curve's, and half positions below the knee where X surely serves itself
abbrev pub positions_off : ℕ
positions_off = 8

abbrev pub knee_halves : ℕ
knee_halves = 5

-- t, the position of 1,000 cd/m2
abbrev pub thousand_at : ℕ
thousand_at = 674406

-- the bent positions under peaks from 1,001 to 10,000, and the cells of the light table that hold them and the points around them
abbrev pub least_bent : ℕ
least_bent = 563095

abbrev pub first_cell : ℕ
first_cell = 2199

abbrev pub cells : ℕ
cells = 436

-- ---- full range: the lights of the codes 1, 3 and 4 of twelve bits. The first is the least above black; up to the third a pixel is dim, and from the
-- fourth on, which is the first of ten bits, it is lit
abbrev pub first_light : ℕ
first_light = 69

abbrev pub dim_light : ℕ
dim_light = 423

abbrev pub lit_light : ℕ
lit_light = 684

abbrev pub lit_luminance : ℕ
lit_luminance = 593 * lit_light

-- the same of a lit pixel as above: units off a result and ten-thousandths off the luminance, slopes and rooms, and the ratio that they leave
abbrev pub full_result_above : ℕ
full_result_above = 22

abbrev pub full_result_below : ℕ
full_result_below = 25

abbrev pub full_luminance_below : ℕ
full_luminance_below = 250000

abbrev pub full_luminance_above : ℕ
full_luminance_above = 215000

abbrev pub full_slope_above : ℕ
full_slope_above = 2100

abbrev pub full_slope_below : ℕ
full_slope_below = 1790

abbrev pub full_room_above : ℕ
full_room_above = 300000

abbrev pub full_room_below : ℕ
full_room_below = 200000

abbrev pub full_ratio_under : ℕ
full_ratio_under = 280

abbrev pub full_ratio_over : ℕ
full_ratio_over = 281

-- the lights of a dim pixel are enclosed within this ratio
abbrev pub dim_ratio : ℕ
dim_ratio = 2
