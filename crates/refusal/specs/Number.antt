-- The number of each refusal (scope, What stops a call; requests 01, 02, 07, 11, 12 and 13), and its place.
use Rattle.std.specs.Prelude.{ℕ}
use Rattle.refusal.specs.declared.Refusal.{Refusal}
use Rattle.refusal.specs.declared.Refusal.TheVariants.{CardEmpty, UnknownBit, CardCut, FieldOutOfRange, NoPeak, Peak, RowLength, ValueCount, ElementCount}
use Rattle.refusal.specs.declared.Refusal.TheVariants.{DestinationLength, Span, Sample, NotFinite, Code, Width, RowCut, NoPixel, RowCount, Own}

abbrev pub number : Refusal → ℕ
number CardEmpty = 1
number UnknownBit = 2
number CardCut = 3
number FieldOutOfRange = 4
number Peak = 5
number RowLength = 6
number DestinationLength = 7
number Span = 8
number (Sample i) = 9
number Width = 10
number RowCut = 11
number NoPixel = 12
number RowCount = 13
number Code = 14
number ValueCount = 15
number (NotFinite i) = 16
number NoPeak = 17
number ElementCount = 18
number (Own n i) = n

-- 0 except for a sample or a value, which has its own, and for a caller's own refusal
abbrev pub place : Refusal → ℕ
place (Sample i) = i
place (NotFinite i) = i
place (Own n i) = i
place _ = 0
