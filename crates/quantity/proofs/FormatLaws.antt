-- The four formats in numbers, as scope and request 06 name them, and which bits of a number mean them; all computed.
use mathlib.Core.Path.{◌≡◌, refl}
use Prim.Native.Nat.{ℕ}
use Rattle.quantity.specs.declared.sample_format.Depth.TheVariants.{Ten, Twelve}
use Rattle.quantity.specs.declared.sample_format.Range.TheVariants.{Narrow, Full}
use Rattle.quantity.specs.declared.sample_format.SampleFormat.{SampleFormat}
use Rattle.quantity.specs.SampleFormat.{black, nominal_peak, least_taken, most_taken, format_of, coded}

-- codes are taken from least to most and read from the code of black to that of nominal peak
pub record Numbers (f : SampleFormat) (from to least most : ℕ) : Type 0 where
  pub black_is : black f ≡ from
  pub peak_is : nominal_peak f ≡ to
  pub least_is : least_taken f ≡ least
  pub most_is : most_taken f ≡ most

pub numbers :
    Numbers (coded Ten Narrow) 64 940 4 1019 ×
    Numbers (coded Twelve Narrow) 256 3760 16 4079 ×
    Numbers (coded Ten Full) 0 1023 0 1023 ×
    Numbers (coded Twelve Full) 0 4095 0 4095
numbers = (
  record { black_is = refl; peak_is = refl; least_is = refl; most_is = refl },
  record { black_is = refl; peak_is = refl; least_is = refl; most_is = refl },
  record { black_is = refl; peak_is = refl; least_is = refl; most_is = refl },
  record { black_is = refl; peak_is = refl; least_is = refl; most_is = refl },
)

-- bits 3 and 4 decide, and no other: 231 has all other bits of a byte
pub bits_mean :
    (format_of 0 ≡ coded Ten Narrow) ×
    (format_of 8 ≡ coded Twelve Narrow) ×
    (format_of 16 ≡ coded Ten Full) ×
    (format_of 24 ≡ coded Twelve Full) ×
    (format_of 231 ≡ coded Ten Narrow) ×
    (format_of 255 ≡ coded Twelve Full)
bits_mean = (refl, refl, refl, refl, refl, refl)
