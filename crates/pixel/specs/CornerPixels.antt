-- The twelve marked pixels (scope, Corner pixels): document 002's colours of 1,000 cd/m2, the ends of the code range, and the first code above black.
use Rattle.std.specs.Prelude.{◌≡◌, ℕ}
use Rattle.quantity.specs.Source.{graded_at}
use Rattle.quantity.specs.Component.{red, green, blue, Pixel, pixel}
use Rattle.pixel.specs.Conversion.{code}

-- a pixel under a peak has these HLG codes
pub record Converts (peak : ℕ) (p : Pixel) (r g b : ℕ) : Type 0 where
  pub to_red : code (graded_at peak) p red ≡ r
  pub to_green : code (graded_at peak) p green ≡ g
  pub to_blue : code (graded_at peak) p blue ≡ b

pub record CornerPixels : Type 0 where
  pub black : Converts 1000 (pixel 64 64 64) 64 64 64
  pub pure_red : Converts 1000 (pixel 723 64 64) 976 64 64
  pub pure_green : Converts 1000 (pixel 64 723 64) 64 950 64
  pub pure_blue : Converts 1000 (pixel 64 64 723) 64 64 1015
  pub yellow : Converts 1000 (pixel 723 723 64) 942 942 64
  pub cyan : Converts 1000 (pixel 64 723 723) 64 948 948
  pub magenta : Converts 1000 (pixel 723 64 723) 970 64 970
  pub white : Converts 1000 (pixel 723 723 723) 940 940 940
  pub below_black : Converts 4000 (pixel 4 4 4) 64 64 64
  pub above_peak : Converts 4000 (pixel 1019 1019 1019) 940 940 940
  pub full_signal : Converts 10000 (pixel 940 940 940) 940 940 940
  pub first_code : Converts 1000 (pixel 65 65 65) 65 65 65
