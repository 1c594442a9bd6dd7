-- The record of a measuring run and what its calls answer (request 01), for every record, also those that no run makes.
-- Positions are in 1/897,024 of the PQ signal; rows and pixels are counted from 0.
use Rattle.std.specs.Prelude.{ℕ, zero, suc, min, ◌*◌, Bool, cond, ◌||◌, eqb, Result, Ok, Err}
use Rattle.quantity.specs.Units.{last_position}
use Rattle.position.specs.Position.{light_at}
use Rattle.pixel.specs.Conversion.{brightest_position}
use Rattle.rows.specs.Row.{pixel_at}
use Rattle.refusal.specs.declared.Refusal.{Refusal}
use Rattle.content_light.specs.declared.RunRecord.{RunRecord}
use Rattle.content_light.specs.declared.Peak.{Peak}
use Rattle.content_light.specs.Peak.{CodedRow, pixels_of, most_rows, Test, accepted, refused, row_test, outshines, Brightest, none, found, peak_of}

-- the most pixels that a run counts: 8,192 in each row
unfoldable pub most_pixels : ℕ
unfolding most_rows
most_pixels = 8192 * most_rows

-- a record as it is read: a field past its range is the range's end
abbrev pub record_read : RunRecord → RunRecord
record_read r = record {
  rows = min r.rows most_rows;
  pixels = min r.pixels most_pixels;
  position = record { 0 = min r.position.0 last_position };
  row = min r.row 4294967294;
  pixel = min r.pixel 8191;
}

abbrev pub fresh_record : RunRecord
fresh_record = record { rows = 0; pixels = 0; position = record { 0 = 0 }; row = 0; pixel = 0 }

-- a pixel becomes the record's where the record has none yet, or its light outshines: m is the position of its brightest code
unfoldable pub takes_over : RunRecord → ℕ → Bool
takes_over r m = eqb r.pixels 0 || outshines (light_at m) (light_at r.position.0)

-- a record with pixel j of the next row
unfoldable pub with_pixel : RunRecord → ℕ → ℕ → RunRecord
with_pixel r m j =
    let pixels = min (suc r.pixels) most_pixels in
    cond (takes_over r m)
    (record { rows = r.rows; pixels = pixels; position = record { 0 = m }; row = r.rows; pixel = j })
    (record { rows = r.rows; pixels = pixels; position = r.position; row = r.row; pixel = r.pixel })

-- the position of the brightest code of pixel j of a row
abbrev pub position_of : CodedRow → ℕ → ℕ
position_of row j = brightest_position row.format (pixel_at row.bytes j)

-- with the first n pixels of the next row
unfoldable pub with_pixels : RunRecord → CodedRow → ℕ → RunRecord
with_pixels r row zero = r
with_pixels r row (suc n) = with_pixel (with_pixels r row n) (position_of row n) n

-- with the whole row, which is counted then
unfoldable pub with_row : RunRecord → CodedRow → RunRecord
with_row r row =
    let s = with_pixels r row (pixels_of row) in
    record { rows = suc s.rows; pixels = s.pixels; position = s.position; row = s.row; pixel = s.pixel }

abbrev pub answer_after : Test → RunRecord → Result RunRecord Refusal
answer_after accepted r = Ok r
answer_after (refused refusal) r = Err refusal

-- what the call for a row answers: its refusal, or the record with the row in it
unfoldable pub record_answer : RunRecord → CodedRow → Result RunRecord Refusal
record_answer r row = let s = record_read r in answer_after (row_test s.rows row) (with_row s row)

-- the brightest pixel that a record holds
unfoldable pub held : RunRecord → Brightest
held r = cond (eqb r.pixels 0) none (found (light_at r.position.0) r.row r.pixel)

-- what the call for the result answers
unfoldable pub peak_answer : RunRecord → Result Peak Refusal
peak_answer r = peak_of (held (record_read r))
