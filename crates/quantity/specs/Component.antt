-- A pixel: a number for each of its three components.
use Rattle.std.specs.Prelude.{ℕ, max, ◌+◌, ◌*◌}
use Rattle.quantity.specs.declared.Rgb.{Rgb}

pub data Component : Type 0 where
  red green blue : Component

abbrev pub Pixel : Type 0
Pixel = Component → ℕ

abbrev pub pixel : ℕ → ℕ → ℕ → Pixel
pixel r g b red = r
pixel r g b green = g
pixel r g b blue = b

-- the pixel of three numbers that the code holds
abbrev pub components : Rgb ℕ → Pixel
components p = pixel p.red p.green p.blue

-- maxRGB: the largest of the three
abbrev pub brightest : Pixel → ℕ
brightest p = max (max (p red) (p green)) (p blue)

-- BT.2100's luminance of the three, in ten-thousandths: its weights are whole numbers there
abbrev pub weighted : Pixel → ℕ
weighted p = 2627 * p red + 6780 * p green + 593 * p blue
