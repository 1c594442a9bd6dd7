-- How the samples of a picture are coded (scope, Light: code, and refusal 9; request 06): depth and range, and what they make of code values, as
-- BT.2100's table of integer representations has it.
use Rattle.std.specs.Prelude.{ℕ, ◌+◌, ◌-◌, ◌*◌, ◌/◌, ◌%◌, ◌^◌, cond, eqb}
use Rattle.quantity.specs.declared.sample_format.Depth.{Depth}
use Rattle.quantity.specs.declared.sample_format.Depth.TheVariants.{Ten, Twelve}
use Rattle.quantity.specs.declared.sample_format.Range.{Range}
use Rattle.quantity.specs.declared.sample_format.Range.TheVariants.{Narrow, Full}
use Rattle.quantity.specs.declared.sample_format.SampleFormat.{SampleFormat}

-- n, the bits of a code value
abbrev pub bits : Depth → ℕ
bits Ten = 10
bits Twelve = 12

-- 2^(n − 8): in narrow range a code of eight bits times this is one of n bits
abbrev pub fine : Depth → ℕ
fine d = 2 ^ (bits d - 8)

-- the last code, 2^n − 1
abbrev pub last_code : Depth → ℕ
last_code d = 2 ^ bits d - 1

-- one number in narrow range, another in full range
abbrev pub by_range : Range → ℕ → ℕ → ℕ
by_range Narrow narrow full = narrow
by_range Full narrow full = full

-- the code of black, which is the signal 0; how many codes lie from there to nominal peak, the signal 1; and that code
abbrev pub black : SampleFormat → ℕ
black f = by_range f.range (16 * fine f.depth) 0

abbrev pub excursion : SampleFormat → ℕ
excursion f = by_range f.range (219 * fine f.depth) (last_code f.depth)

abbrev pub nominal_peak : SampleFormat → ℕ
nominal_peak f = black f + excursion f

-- the codes that are taken, from this one to that
abbrev pub least_taken : SampleFormat → ℕ
least_taken f = by_range f.range (fine f.depth) 0

abbrev pub most_taken : SampleFormat → ℕ
most_taken f = by_range f.range (255 * fine f.depth - 1) (last_code f.depth)

-- request 06: bit 3 of a number means twelve bits, bit 4 full range
abbrev pub format_of : ℕ → SampleFormat
format_of number =
    record {
      depth = cond (eqb (number / 2 ^ 3 % 2) 1) Twelve Ten;
      range = cond (eqb (number / 2 ^ 4 % 2) 1) Full Narrow;
    }

-- of this depth and range
abbrev pub coded : Depth → Range → SampleFormat
coded d r = record { depth = d; range = r }
