-- Code values of every depth and range (scope, Light: code; request 06): as they are read, their PQ signals, positions and lights. Light in units of
-- 1/16,777,216 cd/m2, positions in 1/897,024 of the PQ signal.
use Rattle.std.specs.Prelude.{ℕ, max, min, ◌-◌, ◌*◌, ◌/◌, ◌<◌}
use Rattle.std.proofs.Common.{arith}
use Rattle.laws.specs.Fraction.{Fraction, over}
use Rattle.quantity.specs.declared.sample_format.Depth.{Depth}
use Rattle.quantity.specs.declared.sample_format.Depth.TheVariants.{Ten, Twelve}
use Rattle.quantity.specs.declared.sample_format.Range.{Range}
use Rattle.quantity.specs.declared.sample_format.Range.TheVariants.{Narrow, Full}
use Rattle.quantity.specs.declared.sample_format.SampleFormat.{SampleFormat}
use Rattle.quantity.specs.SampleFormat.{black, excursion, nominal_peak, coded}
use Rattle.position.specs.Position.{light_at_in, light_at}

-- a code as it is read: what lies below black or above nominal peak is read as that
abbrev pub code_read : SampleFormat → ℕ → ℕ
code_read f D = min (max D (black f)) (nominal_peak f)

-- how many codes it lies above black
abbrev pub above_black : SampleFormat → ℕ → ℕ
above_black f D = code_read f D - black f

-- its PQ signal, unrounded: (D − 64)/876 and (D − 256)/3,504 in narrow range, D/(2^n − 1) in full range
pub excursion_pos : (f : SampleFormat) → 0 < excursion f
excursion_pos f = go f.depth f.range
  where
    go : (d : Depth) (r : Range) → 0 < excursion (coded d r)
    go Ten Narrow = omega arith
    go Ten Full = omega arith
    go Twelve Narrow = omega arith
    go Twelve Full = omega arith

abbrev pub code_signal : SampleFormat → ℕ → Fraction
code_signal f D = over (above_black f D) (excursion f) (excursion_pos f)

-- its position, that signal in 1/897,024, rounded down: in narrow range a whole number, 1,024(D − 64) and 256(D − 256)
abbrev pub code_position : SampleFormat → ℕ → ℕ
code_position f D = 897024 * above_black f D / excursion f

-- its light, that at its position
abbrev pub code_light_in : (ℕ → ℕ) → SampleFormat → ℕ → ℕ
code_light_in P f D = light_at_in P (code_position f D)

unfoldable pub code_light : SampleFormat → ℕ → ℕ
code_light f D = light_at (code_position f D)
