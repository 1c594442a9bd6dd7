-- The peaks from 1,001 to 9,999, by computation alone: about a thousand to a declaration, whose steps are limited.
use lib.Dec.{T}
use Rattle.pq.specs.Pq.{ratio_num, ratio_den}
use Rattle.quantity.specs.Units.{units, ten_thousand}
use Rattle.pq.specs.LightTable.{light_table}
use Rattle.pq.proofs.TableHints.{hints}
use Rattle.peaks.proofs.PeakWalk.{tested}

pub from_1001 : T (tested 2634 267 1001 2004)
unfolding units ten_thousand ratio_num ratio_den light_table hints
from_1001 = tt

pub from_2004 : T (tested 2900 156 2004 3011)
unfolding units ten_thousand ratio_num ratio_den light_table hints
from_2004 = tt

pub from_3011 : T (tested 3055 110 3011 4015)
unfolding units ten_thousand ratio_num ratio_den light_table hints
from_3011 = tt

pub from_4015 : T (tested 3164 85 4015 5019)
unfolding units ten_thousand ratio_num ratio_den light_table hints
from_4015 = tt

pub from_5019 : T (tested 3248 70 5019 6035)
unfolding units ten_thousand ratio_num ratio_den light_table hints
from_5019 = tt

pub from_6035 : T (tested 3317 59 6035 7051)
unfolding units ten_thousand ratio_num ratio_den light_table hints
from_6035 = tt

pub from_7051 : T (tested 3375 51 7051 8070)
unfolding units ten_thousand ratio_num ratio_den light_table hints
from_7051 = tt

pub from_8070 : T (tested 3425 45 8070 9092)
unfolding units ten_thousand ratio_num ratio_den light_table hints
from_8070 = tt

pub from_9092 : T (tested 3469 36 9092 10000)
unfolding units ten_thousand ratio_num ratio_den light_table hints
from_9092 = tt
