-- Small titles, computed: what black, the first code above it, the codes about 1,000 cd/m2 and those from full signal on measure; which row and which
-- pixel is told; and records that no run makes.
use mathlib.Core.Path.{◌≡◌, refl}
use mathlib.Core.List.{[], ◌∷◌, ◌++◌}
use Prim.Native.Nat.{ℕ}
use Rattle.std.specs.Prelude.{Ok, Err}
use Rattle.quantity.specs.Units.{units, last_position}
use Rattle.quantity.specs.declared.sample_format.Depth.TheVariants.{Ten, Twelve}
use Rattle.quantity.specs.declared.sample_format.Range.TheVariants.{Narrow, Full}
use Rattle.quantity.specs.SampleFormat.{coded}
use Rattle.quantity.specs.Component.{Pixel, pixel}
use Rattle.pq.specs.LightTable.{light_table, light_entry}
use Rattle.big_endian.specs.BigEndian.{number_at}
use Rattle.position.specs.Position.{light_at}
use Rattle.position.specs.Code.{code_light}
use Rattle.pixel.specs.Conversion.{brightest_light, brightest_position}
use Rattle.rows.specs.Row.{sample_at, pixel_bytes}
use Rattle.rows.specs.Answer.{outside, first_of, count_refused}
use Rattle.content_light.specs.declared.RunRecord.{RunRecord}
use Rattle.refusal.specs.declared.Refusal.TheVariants.{NoPixel, RowCount}
use Rattle.content_light.specs.Peak.{CodedRow, row_in, most_rows, row_test}
use Rattle.content_light.specs.Peak.{accepted_rows, outshines, after, after_pixels, after_rows, rounded_up, peak_at, peak_of, measured}
use Rattle.content_light.specs.Run.{most_pixels, takes_over, with_pixel, with_pixels, with_row, record_answer}
use Rattle.content_light.proofs.BrightestLaws.{after_by, after_pixels_by, after_rows_by}
use Rattle.content_light.proofs.EqualLightLaws.{formerly_measured}

-- a row of one red pixel of that code
abbrev row_of : ℕ → CodedRow
row_of D = row_in (coded Ten Narrow) (pixel_bytes (pixel D 64 64))

-- one of three pixels
abbrev three_pixels : Pixel → Pixel → Pixel → CodedRow
three_pixels p q r = row_in (coded Ten Narrow) (pixel_bytes p ++ pixel_bytes q ++ pixel_bytes r)

-- and one of none
abbrev empty : CodedRow
empty = row_in (coded Ten Narrow) []

pub record Examples : Type 0 where
  pub black : measured (row_of 64 ∷ []) ≡ Ok (peak_at 0 0 0)
  pub first_code : measured (row_of 65 ∷ []) ≡ Ok (peak_at 1 0 0)
  pub below_thousand : measured (row_of 722 ∷ []) ≡ Ok (peak_at 994 0 0)
  pub above_thousand : measured (row_of 723 ∷ []) ≡ Ok (peak_at 1005 0 0)
  pub full_signal : measured (row_of 940 ∷ []) ≡ Ok (peak_at 10000 0 0)
  pub past_signal : measured (row_of 1019 ∷ []) ≡ Ok (peak_at 10000 0 0)
  pub earlier_row : measured (row_of 722 ∷ row_of 65 ∷ []) ≡ Ok (peak_at 994 0 0)
  pub later_row : measured (row_of 65 ∷ row_of 722 ∷ []) ≡ Ok (peak_at 994 1 0)
  pub equal_light : measured (row_of 940 ∷ row_of 1019 ∷ []) ≡ Ok (peak_at 10000 1 0)
  pub equal_light_before : formerly_measured (row_of 940 ∷ row_of 1019 ∷ []) ≡ Ok (peak_at 10000 0 0)
  pub equal_blacks : measured (row_of 64 ∷ row_of 4 ∷ []) ≡ Ok (peak_at 0 1 0)
  pub equal_pixels : measured (three_pixels (pixel 722 64 64) (pixel 64 722 64) (pixel 721 721 721) ∷ []) ≡ Ok (peak_at 994 0 1)
  pub refused_row : measured (row_of 3 ∷ row_of 722 ∷ []) ≡ Ok (peak_at 994 0 0)
  pub empty_row : measured (empty ∷ row_of 722 ∷ []) ≡ Ok (peak_at 994 1 0)
  pub twelve_bits : measured (row_in (coded Twelve Narrow) (pixel_bytes (pixel 2888 256 256)) ∷ []) ≡ Ok (peak_at 994 0 0)
  pub full_range : measured (row_in (coded Twelve Full) (pixel_bytes (pixel 4095 0 0)) ∷ []) ≡ Ok (peak_at 10000 0 0)
  pub equal_formats : measured (row_of 722 ∷ row_in (coded Twelve Narrow) (pixel_bytes (pixel 2888 256 256)) ∷ []) ≡ Ok (peak_at 994 1 0)
  pub brighter_format : measured (row_of 722 ∷ row_in (coded Ten Full) (pixel_bytes (pixel 769 0 0)) ∷ []) ≡ Ok (peak_at 999 1 0)
  pub no_pixel : measured (empty ∷ []) ≡ Err NoPixel

pub examples : Examples
unfolding units light_table light_entry number_at light_at code_light brightest_light sample_at pixel_bytes outside first_of count_refused most_rows row_test
    accepted_rows outshines after after_pixels after_rows rounded_up peak_of measured after_by after_pixels_by after_rows_by formerly_measured
examples =
    record {
      black = refl;
      first_code = refl;
      below_thousand = refl;
      above_thousand = refl;
      full_signal = refl;
      past_signal = refl;
      earlier_row = refl;
      later_row = refl;
      equal_light = refl;
      equal_light_before = refl;
      equal_blacks = refl;
      equal_pixels = refl;
      refused_row = refl;
      empty_row = refl;
      twelve_bits = refl;
      full_range = refl;
      equal_formats = refl;
      brighter_format = refl;
      no_pixel = refl;
    }

-- a record that has counted all rows refuses 13, also a row that would be refused otherwise
abbrev all_rows : RunRecord
all_rows = record { rows = 4294967295; pixels = 1; position = record { 0 = 0 }; row = 0; pixel = 0 }

pub full_record : (row : CodedRow) → record_answer all_rows row ≡ Err RowCount
unfolding most_rows row_test record_answer
full_record row = refl

-- a record at position 3, which no code has, with the light of black: black takes over
abbrev dark_record : RunRecord
dark_record = record { rows = 9; pixels = 9; position = record { 0 = 3 }; row = 3; pixel = 3 }

pub dark_record_lem :
    record_answer dark_record (row_of 64) ≡ Ok (record { rows = 10; pixels = 10; position = record { 0 = 0 }; row = 9; pixel = 0 })
unfolding light_table light_entry number_at light_at brightest_position sample_at pixel_bytes outside first_of count_refused most_rows most_pixels row_test
    outshines takes_over with_pixel with_pixels with_row record_answer last_position
dark_record_lem = refl
