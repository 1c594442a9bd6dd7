-- Rows (scope, Cards, rows, program): pixels of three 16-bit samples, and the bytes of a destination whose span was converted, whatever gives its pixels:
-- any conversion of a row's pixels does. Rows and destinations are lists of bytes; samples and pixels are counted from 0 at the row's start.
use Rattle.std.specs.Prelude.{ℕ, zero, suc, ◌+◌, ◌-◌, ◌*◌, ◌/◌, min, List, [], ◌++◌, length, take, drop}
use Rattle.quantity.specs.declared.Rgb.{Rgb}
use Rattle.quantity.specs.Component.{red, green, blue, Pixel, pixel}
use Rattle.big_endian.specs.BigEndian.{number_at, bytes_of}

-- sample i of a row, high byte first
unfoldable pub sample_at : List ℕ → ℕ → ℕ
sample_at row i = number_at row (2 * i)

-- pixel j of a row: three samples, red, green, blue
abbrev pub pixel_at : List ℕ → ℕ → Pixel
pixel_at row j = pixel (sample_at row (3 * j)) (sample_at row (3 * j + 1)) (sample_at row (3 * j + 2))

-- a pixel's numbers as the code holds them
abbrev pub rgb : Pixel → Rgb ℕ
rgb p = record { red = p red; green = p green; blue = p blue }

-- the six bytes of a pixel of codes
unfoldable pub pixel_bytes : Pixel → List ℕ
pixel_bytes p = bytes_of (p red) ++ bytes_of (p green) ++ bytes_of (p blue)

-- the bytes of n pixels from pixel j on; p gives each by its number
unfoldable pub pixels_bytes : (ℕ → Pixel) → ℕ → ℕ → List ℕ
pixels_bytes p j zero = []
pixels_bytes p j (suc n) = pixels_bytes p j n ++ pixel_bytes (p (j + n))

-- a destination with these pixels from first to end − 1 in their places; its other bytes are as they were
abbrev pub with_pixels : (ℕ → Pixel) → List ℕ → ℕ → ℕ → List ℕ
with_pixels p dst first end = take (6 * first) dst ++ pixels_bytes p first (end - first) ++ drop (6 * end) dst

-- the pixels of a row, converted by f
abbrev pub converted : (Pixel → Pixel) → List ℕ → ℕ → Pixel
converted f row j = f (pixel_at row j)

abbrev pub span_bytes : (Pixel → Pixel) → List ℕ → ℕ → ℕ → List ℕ
span_bytes f row = pixels_bytes (converted f row)

abbrev pub with_span : (Pixel → Pixel) → List ℕ → List ℕ → ℕ → ℕ → List ℕ
with_span f row = with_pixels (converted f row)

-- a destination that was filled from src: as many whole pixels as both have, the other bytes as they were
abbrev pub converted_into : (Pixel → Pixel) → List ℕ → List ℕ → List ℕ
converted_into f src dst = with_span f src dst 0 (min (length src) (length dst) / 6)
