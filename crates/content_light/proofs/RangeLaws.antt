-- Records whose fields are in their ranges, as those of a run are: they are read as they are, and stay so with every row that is accepted.
use mathlib.Core.Path.{◌≡◌, refl}
use mathlib.Core.Bool.{Bool, true, false}
use Prim.Native.Nat.{ℕ, zero, suc, min, ◌/◌, ◌≤◌, ◌<◌}
use native.Mathlib.Omega.{arith}
use lib.Dec.{leb, ltb}
use lib.ListN.{length}
use borrow.Author.Tests.{leb-false, ltb-false}
use Rattle.quantity.specs.Units.{last_position}
use Rattle.rows.specs.Answer.{first_refused, length_refused}
use Rattle.rows.proofs.AnswerLaws.{length_taken}
use Rattle.pq_hlg.specs.Pixel.{sample_refused}
use Rattle.refusal.specs.declared.Refusal.{Refusal}
use Rattle.content_light.specs.declared.RunRecord.{RunRecord}
use Rattle.content_light.specs.Peak.{CodedRow, pixels_of, most_rows, accepted, refused, row_test}
use Rattle.content_light.specs.Run.{most_pixels, record_read, fresh_record, takes_over, with_pixel, position_of, with_pixels, with_row}
use Rattle.content_light.proofs.RecordLaws.{most_rows_lem, rows_kept, position_within, chosen}

-- the fields are in their ranges
pub record InRange (r : RunRecord) : Type 0 where
  pub rows : r.rows ≤ most_rows
  pub pixels : r.pixels ≤ most_pixels
  pub position : r.position.0 ≤ last_position
  pub row : r.row ≤ 4294967294
  pub pixel : r.pixel ≤ 8191

pub fresh_in_range : InRange fresh_record
fresh_in_range = record { rows = omega arith; pixels = omega arith; position = omega arith; row = omega arith; pixel = omega arith }

pub read_same : (r : RunRecord) → InRange r → record_read r ≡ r
read_same r x =
    let a : min r.rows most_rows ≡ r.rows = omega (arith, x.rows) in
    let b : min r.pixels most_pixels ≡ r.pixels = omega (arith, x.pixels) in
    let c : min r.position.0 last_position ≡ r.position.0 = omega (arith, x.position) in
    let d : min r.row 4294967294 ≡ r.row = omega (arith, x.row) in
    let e : min r.pixel 8191 ≡ r.pixel = omega (arith, x.pixel) in
    rw (a, b, c, d, e)

-- what an accepted row has passed
pub record Taken (rows : ℕ) (row : CodedRow) : Type 0 where
  pub room : rows < most_rows
  pub length_passed : length_refused (length row.bytes) ≡ false
  pub samples_passed : length row.bytes / 2 ≤ first_refused (sample_refused row.format) row.bytes 0 (length row.bytes / 2)

pub taken : (rows : ℕ) (row : CodedRow) → row_test rows row ≡ accepted → Taken rows row
unfolding row_test
taken rows row h = go (leb most_rows rows) (length_refused (length row.bytes)) (ltb i (length row.bytes / 2)) refl refl refl
  where
    i : ℕ
    i = first_refused (sample_refused row.format) row.bytes 0 (length row.bytes / 2)

    not_refused : {refusal : Refusal} → refused refusal ≡ accepted → Taken rows row
    not_refused e = absurd (let n : ◌≡◌ {A = ℕ} 0 1 = cc in omega arith)

    go : (a b c : Bool) → leb most_rows rows ≡ a → length_refused (length row.bytes) ≡ b → ltb i (length row.bytes / 2) ≡ c → Taken rows row
    go true b c p q s = not_refused (simp p at h)
    go false true c p q s = not_refused (simp (p, q) at h)
    go false false true p q s = not_refused (simp (p, q, s) at h)
    go false false false p q s = record { room = leb-false most_rows rows p; length_passed = q; samples_passed = ltb-false i (length row.bytes / 2) s }

in_range_pixels : (r : RunRecord) (row : CodedRow) (n : ℕ) → InRange r → r.rows < most_rows → n ≤ 8192 → InRange (with_pixels r row n)
unfolding with_pixels with_pixel
in_range_pixels r row zero x l h = x
in_range_pixels r row (suc n) x l h =
    let s = with_pixels r row n in
    let y = in_range_pixels r row n x l (omega arith) in
    let position = position_within r row (suc n) x.position in
    let b = takes_over s (position_of row n) in
    record {
      rows = chosen (λ (t : RunRecord). t.rows ≤ most_rows) b _ _ y.rows y.rows;
      pixels = chosen (λ (t : RunRecord). t.pixels ≤ most_pixels) b _ _ (omega arith) (omega arith);
      position = position;
      row = chosen (λ (t : RunRecord). t.row ≤ 4294967294) b _ _ (omega (arith, rows_kept r row n, most_rows_lem)) y.row;
      pixel = chosen (λ (t : RunRecord). t.pixel ≤ 8191) b _ _ (omega arith) y.pixel;
    }

pub in_range_row : (r : RunRecord) (row : CodedRow) → InRange r → Taken r.rows row → InRange (with_row r row)
unfolding with_row
in_range_row r row x t =
    let pixels : pixels_of row ≤ 8192 = omega (arith, (length_taken (length row.bytes) t.length_passed).1) in
    let y = in_range_pixels r row (pixels_of row) x t.room pixels in
    record { rows = omega (arith, rows_kept r row (pixels_of row), t.room); pixels = y.pixels; position = y.position; row = y.row; pixel = y.pixel }
