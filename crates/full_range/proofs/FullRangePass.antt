-- The full-range codes above 0 of both depths, by computation alone: so many to a declaration as its steps allow.
use mathlib.Core.List.{List, [], ◌∷◌}
use lib.Dec.{T}
use Rattle.quantity.specs.Units.{units, ten_thousand}
use Rattle.pq.specs.Pq.{ratio_num, ratio_den}
use Rattle.pq.specs.LightTable.{light_table, light_entry}
use Rattle.pq.proofs.PqTests.{Hint, hint}
use Rattle.pq.proofs.TableHints.{hints}
use Rattle.position.specs.Position.{light_at}
use Rattle.full_range.proofs.FullRangeTests.{holds, every_code}
use Rattle.full_range.proofs.FullRangeWalk.{each}

-- ---- with witnesses between hints: ten bits from code 7 on, twelve bits from code 32 on, all but the last code
pub ten_bits : T (every_code 1023 23 3482)
unfolding units ten_thousand ratio_num ratio_den light_table hints
ten_bits = tt

pub twelve_bits_below : T (every_code 4095 27 1770)
unfolding units ten_thousand ratio_num ratio_den light_table hints
twelve_bits_below = tt

pub twelve_bits_above : T (every_code 4095 1796 1709)
unfolding units ten_thousand ratio_num ratio_den light_table hints
twelve_bits_above = tt

-- ---- the dark codes before them, from 1 on, where w bends too much between hints: two witnesses each, in 1 / 2 ^ 67 or 1 / 2 ^ 68, midway between
-- the w of the position's signal and that of the light's end. Nothing is believed of them
unfoldable pub ten_dark : List (Hint × Hint)
ten_dark =
    (hint 13575018496539562715 68 91, hint 13599340670815454917 68 91) ∷
    (hint 16376519280394005501 68 90, hint 16386093389009449877 68 90) ∷
    (hint 18293319828939359622 68 89, hint 18299568863862076835 68 89) ∷
    (hint 9901657068999546145 67 88, hint 9904009036336566229 67 88) ∷
    (hint 10536782771282254150 67 87, hint 10538689112300779702 67 87) ∷
    (hint 11092238416625986128 67 87, hint 11093853394344170001 67 87) ∷
    []

unfoldable pub twelve_dark : List (Hint × Hint)
twelve_dark =
    (hint 9251362373093322981 68 95, hint 9414129920254301783 68 95) ∷
    (hint 11244246623923312420 68 93, hint 11306673641661076585 68 93) ∷
    (hint 12557807093715947513 68 92, hint 12593745571852593797 68 92) ∷
    (hint 13575018496539562715 68 91, hint 13599340670815454917 68 91) ∷
    (hint 14418055576977564872 68 91, hint 14436055229869522566 68 91) ∷
    (hint 15145265669447311307 68 90, hint 15159358510543550003 68 90) ∷
    (hint 15789261778767120906 68 90, hint 15800731214600072283 68 90) ∷
    (hint 16374061218679738165 68 90, hint 16383642198400858634 68 90) ∷
    (hint 16908308963229295918 68 89, hint 16916491793031330033 68 89) ∷
    (hint 17400793608815300397 68 89, hint 17408767769446006422 68 89) ∷
    (hint 17859560581923378251 68 89, hint 17866582278011374532 68 89) ∷
    (hint 18289422665980449822 68 89, hint 18295678278285862454 68 89) ∷
    (hint 9347675007155878543 67 88, hint 9350487805527045550 67 88) ∷
    (hint 9540011094408647217 67 88, hint 9542561450504208527 67 88) ∷
    (hint 9723798209023575458 67 88, hint 9726364873800289339 67 88) ∷
    (hint 9899282784018180991 67 88, hint 9901637486379404948 67 88) ∷
    (hint 10067391872689963001 67 88, hint 10069563904087987902 67 88) ∷
    (hint 10228802953043794273 67 88, hint 10230816271829834487 67 88) ∷
    (hint 10384786715316687154 67 88, hint 10386829874898192621 67 88) ∷
    (hint 10534750953371251087 67 87, hint 10536659054147746919 67 87) ∷
    (hint 10679799486093144942 67 87, hint 10681587569929878786 67 87) ∷
    (hint 10820609814588407782 67 87, hint 10822426616129889757 67 87) ∷
    (hint 10957162986636911569 67 87, hint 10958874536708620530 67 87) ∷
    (hint 11089846275875681216 67 87, hint 11091462903947646851 67 87) ∷
    (hint 11218824410706853694 67 87, hint 11220467864954284070 67 87) ∷
    (hint 11344469684491870606 67 87, hint 11346028635794535027 67 87) ∷
    (hint 11466900121476937504 67 87, hint 11468482460609875234 67 87) ∷
    (hint 11586470751213963106 67 87, hint 11587977162375386896 67 87) ∷
    (hint 11703575457842487863 67 86, hint 11705011841500956240 67 86) ∷
    (hint 11817947497266876004 67 86, hint 11819405174116111340 67 86) ∷
    (hint 11929917059590412748 67 86, hint 11931311131398439614 67 86) ∷
    []

pub ten_dark_lem : T (each 1023 1 ten_dark)
unfolding units ten_thousand ratio_num ratio_den light_at light_entry light_table ten_dark
ten_dark_lem = tt

pub twelve_dark_lem : T (each 4095 1 twelve_dark)
unfolding units ten_thousand ratio_num ratio_den light_at light_entry light_table twelve_dark
twelve_dark_lem = tt

-- ---- the last code of both depths, at the end of the table: two witnesses of that kind
abbrev pub last_below : Hint
last_below = hint 18446254238535814908 64 64

abbrev pub last_above : Hint
last_above = hint 18447249421086352576 64 63

pub last_code_lem : T (holds (light_at 897024) 897024 last_below last_above)
unfolding units ten_thousand ratio_num ratio_den light_at light_entry light_table
last_code_lem = tt
