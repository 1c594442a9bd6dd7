-- The measured peak of a title's rows (request 01; request 06, depth and range with each row; request 09, the last of equals): which rows are
-- accepted, the last pixel that has the largest component light of all their pixels, and the peak, that light in whole cd/m2. Light is in units; rows
-- and pixels are counted from 0.
use Rattle.std.specs.Prelude.{ℕ, zero, suc, pred, ◌+◌, ◌/◌, Bool, cond, List, [], ◌∷◌, leb, ltb, length, Result, Ok, Err}
use Rattle.quantity.specs.declared.sample_format.SampleFormat.{SampleFormat}
use Rattle.quantity.specs.Units.{units}
use Rattle.pixel.specs.Conversion.{brightest_light}
use Rattle.rows.specs.Row.{pixel_at}
use Rattle.rows.specs.Answer.{first_refused, length_refused}
use Rattle.pq_hlg.specs.Pixel.{sample_refused}
use Rattle.refusal.specs.declared.Refusal.{Refusal}
use Rattle.refusal.specs.declared.Refusal.TheVariants.{RowLength, Sample, NoPixel, RowCount}
use Rattle.content_light.specs.declared.Peak.{Peak}

-- a row with the depth and range of its samples, in which the rows of a run may differ
pub record CodedRow : Type 0 where
  pub format : SampleFormat
  pub bytes : List ℕ

abbrev pub row_in : SampleFormat → List ℕ → CodedRow
row_in f bytes = record { format = f; bytes = bytes }

-- how many pixels it has
abbrev pub pixels_of : CodedRow → ℕ
pixels_of row = length row.bytes / 6

-- ---- accepted rows
-- the most rows that a run counts
unfoldable pub most_rows : ℕ
most_rows = 4294967295

-- a row is accepted, or refused
pub data Test : Type 0 where
  accepted : Test
  refused : Refusal → Test

-- the test of a row after so many accepted ones: refusal 13 where these are all that a run counts, then 6, then 9 at the first refused sample
unfoldable pub row_test : ℕ → CodedRow → Test
row_test rows row =
    let samples = length row.bytes / 2 in
    let i = first_refused (sample_refused row.format) row.bytes 0 samples in
    cond (leb most_rows rows) (refused RowCount)
    (cond (length_refused (length row.bytes)) (refused RowLength)
    (cond (ltb i samples) (refused (Sample i)) accepted))

-- a refused row is not counted
abbrev pub counted : Test → ℕ → ℕ
counted accepted rows = suc rows
counted (refused refusal) rows = rows

-- the test of each row in order, after so many accepted ones
unfoldable pub tests : ℕ → List CodedRow → List Test
tests rows [] = []
tests rows (row ∷ later) = let t = row_test rows row in t ∷ tests (counted t rows) later

abbrev pub kept : Test → CodedRow → List CodedRow → List CodedRow
kept accepted row later = row ∷ later
kept (refused refusal) row later = later

-- the accepted ones in order
unfoldable pub accepted_rows : ℕ → List CodedRow → List CodedRow
accepted_rows rows [] = []
accepted_rows rows (row ∷ later) = let t = row_test rows row in kept t row (accepted_rows (counted t rows) later)

-- ---- the brightest pixel
-- the largest component light of pixel j of a row
abbrev pub light_of : CodedRow → ℕ → ℕ
light_of row j = brightest_light row.format (pixel_at row.bytes j)

-- Which of equals: the last. A later pixel outshines the one found before unless it has less light.
unfoldable pub outshines : ℕ → ℕ → Bool
outshines light found = leb found light

-- the brightest pixel found so far: its light, its row and its place there
pub data Brightest : Type 0 where
  none : Brightest
  found : ℕ → ℕ → ℕ → Brightest

-- with one pixel more
unfoldable pub after : Brightest → ℕ → ℕ → ℕ → Brightest
after none light row pixel = found light row pixel
after (found l r j) light row pixel = cond (outshines light l) (found light row pixel) (found l r j)

-- with the first n pixels of the row of that number
unfoldable pub after_pixels : Brightest → ℕ → CodedRow → ℕ → Brightest
after_pixels b number row zero = b
after_pixels b number row (suc n) = after (after_pixels b number row n) (light_of row n) number n

-- with all pixels of rows, of which the first has that number
unfoldable pub after_rows : Brightest → ℕ → List CodedRow → Brightest
after_rows b number [] = b
after_rows b number (row ∷ later) = after_rows (after_pixels b number row (pixels_of row)) (suc number) later

-- of all pixels of rows
abbrev pub brightest_pixel : List CodedRow → Brightest
brightest_pixel rows = after_rows none 0 rows

-- ---- the peak
-- a light in whole cd/m2, rounded up
unfoldable pub rounded_up : ℕ → ℕ
rounded_up light = (light + pred units) / units

-- a peak in whole cd/m2 at that row and pixel
abbrev pub peak_at : ℕ → ℕ → ℕ → Peak
peak_at cd row pixel = record { cd = cd; row = row; pixel = pixel }

-- the peak with row and pixel, or refusal 12 where there is no pixel
unfoldable pub peak_of : Brightest → Result Peak Refusal
peak_of none = Err NoPixel
peak_of (found light row pixel) = Ok (peak_at (rounded_up light) row pixel)

-- what a run over rows measures
unfoldable pub measured : List CodedRow → Result Peak Refusal
measured rows = peak_of (brightest_pixel (accepted_rows 0 rows))
