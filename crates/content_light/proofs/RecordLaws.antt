-- Laws of a record with more pixels: what stays, how a row goes in that no pixel of which takes over, and what its numbers are as 64-bit ones.
use mathlib.Core.Path.{◌≡◌, refl, sym, ap, subst, ◌∙◌}
use mathlib.Core.Bool.{Bool, true, false, cond}
use Prim.Native.Nat.{ℕ, zero, suc, min, ◌+◌, ◌≤◌, ◌<◌}
use native.Mathlib.Omega.{arith}
use lib.Dec.{eqb}
use borrow.Author.Tests.{eqb-false, ne_eqb}
use Rattle.quantity.specs.Units.{last_position}
use Rattle.quantity.specs.Component.{brightest}
use Rattle.position.specs.Position.{light_at}
use Rattle.position.specs.Code.{code_position}
use Rattle.position.proofs.LightLaws.{light_grows}
use Rattle.position.proofs.CodeLaws.{code_position_grows}
use Rattle.pixel.specs.Conversion.{brightest_position}
use Rattle.pixel.proofs.PixelLaws.{brightest_position_range}
use Rattle.rows.specs.Row.{pixel_at}
use Rattle.rows.proofs.AnswerLaws.{neither}
use Rattle.content_light.specs.declared.RunRecord.{RunRecord}
use Rattle.content_light.specs.Peak.{CodedRow, most_rows, outshines}
use Rattle.content_light.specs.Run.{most_pixels, takes_over, with_pixel, position_of, with_pixels}
use Rattle.content_light.specs.Bounds.{Bounded}
use Rattle.content_light.proofs.OutshinesLaws.{dimmer}
use Rattle.content_light.proofs.BoundLaws.{brightest_bounded}

pub most_rows_lem : most_rows ≡ 4294967295
unfolding most_rows
most_rows_lem = refl

pub most_pixels_lem : most_pixels ≡ 35184372080640
unfolding most_pixels most_rows
most_pixels_lem = refl

-- a record that counts so many pixels
abbrev pub counting : RunRecord → ℕ → RunRecord
counting r count = record { rows = r.rows; pixels = count; position = r.position; row = r.row; pixel = r.pixel }

-- ---- one pixel more
pub taken_over : (r : RunRecord) (m j : ℕ) {count : ℕ} → takes_over r m ≡ true → count ≡ min (suc r.pixels) most_pixels
    → record { rows = r.rows; pixels = count; position = record { 0 = m }; row = r.rows; pixel = j } ≡ with_pixel r m j
unfolding with_pixel
taken_over r m j t e = rw e (sym (simp t))

pub left_alone : (r : RunRecord) (m j : ℕ) {count : ℕ} → takes_over r m ≡ false → count ≡ min (suc r.pixels) most_pixels
    → counting r count ≡ with_pixel r m j
unfolding with_pixel
left_alone r m j t e = rw e (sym (simp t))

-- ---- the pixels of a row
-- what holds of both records holds of the one that is chosen
pub chosen : (P : RunRecord → Type 0) (b : Bool) (x y : RunRecord) → P x → P y → P (cond b x y)
chosen P true x y p q = p
chosen P false x y p q = q

-- pixels do not count rows
pub rows_kept : (r : RunRecord) (row : CodedRow) (n : ℕ) → (with_pixels r row n).rows ≡ r.rows
unfolding with_pixels with_pixel
rows_kept r row zero = refl
rows_kept r row (suc n) =
    let s = with_pixels r row n in
    chosen (λ (x : RunRecord). x.rows ≡ r.rows) (takes_over s (position_of row n)) _ _ (rows_kept r row n) (rows_kept r row n)

-- a found position is one of the range
pub position_within : (r : RunRecord) (row : CodedRow) (n : ℕ) → r.position.0 ≤ last_position → (with_pixels r row n).position.0 ≤ last_position
unfolding with_pixels with_pixel
position_within r row zero h = h
position_within r row (suc n) h =
    let s = with_pixels r row n in
    chosen (λ (x : RunRecord). x.position.0 ≤ last_position) (takes_over s (position_of row n)) _ _
    (brightest_position_range row.format (pixel_at row.bytes n)) (position_within r row n h)

-- a record that counts n more
abbrev pub counting_on : RunRecord → ℕ → RunRecord
counting_on r n = counting r (min (r.pixels + n) most_pixels)

-- the light at the position of a pixel's brightest code is at most that of the bound
pub light_bounded : (row : CodedRow) {n least most : ℕ} → Bounded row.bytes n least most → (j : ℕ) → j < n
    → light_at (position_of row j) ≤ light_at (code_position row.format most)
unfolding brightest_position
light_bounded row {n} {least} {most} b j h =
    light_grows _ _ (code_position_grows row.format (brightest (pixel_at row.bytes j)) most (brightest_bounded b j h))

-- Pixels from the nth on that would not take over from the record then are only counted.
pub rest_counted : (r : RunRecord) (row : CodedRow) (n : ℕ) → ((with_pixels r row n).pixels ≡ 0 → ⊥) → (with_pixels r row n).pixels ≤ most_pixels
    → (d : ℕ) → ((k : ℕ) → n ≤ k → k < n + d → outshines (light_at (position_of row k)) (light_at (with_pixels r row n).position.0) ≡ false)
    → with_pixels r row (n + d) ≡ counting_on (with_pixels r row n) d
unfolding takes_over with_pixels with_pixel
rest_counted r row n p q zero h =
    let s = with_pixels r row n in
    let count : s.pixels ≡ min (s.pixels + 0) most_pixels = omega arith in
    let all : n + 0 ≡ n = omega arith in
    rw all (ap (counting s) count)
rest_counted r row n p q (suc d) h =
    let next : n + suc d ≡ suc (n + d) = omega arith in
    rw next (ap (λ (s : RunRecord). with_pixel s m (n + d)) (rest_counted r row n p q d (λ k x y. h k x (omega arith))) ∙ step)
  where
    s : RunRecord
    s = with_pixels r row n

    m : ℕ
    m = position_of row (n + d)

    some : eqb (min (s.pixels + d) most_pixels) 0 ≡ false
    some = ne_eqb _ 0 (λ (z : min (s.pixels + d) most_pixels ≡ 0). p (omega (arith, most_pixels_lem)))

    step : with_pixel (counting_on s d) m (n + d) ≡ counting_on s (suc d)
    step =
        let e : min (suc (min (s.pixels + d) most_pixels)) most_pixels ≡ min (s.pixels + suc d) most_pixels = omega arith in
        simp (some, h (n + d) (omega arith) (omega arith)) (ap (counting s) e)

-- So are all of a row where a pixel of the bound itself would not take over.
pub only_counted : (r : RunRecord) (row : CodedRow) {n least most : ℕ} → Bounded row.bytes n least most → r.pixels ≤ most_pixels
    → takes_over r (code_position row.format most) ≡ false
    → (k : ℕ) → k ≤ n → with_pixels r row k ≡ counting_on r k
unfolding takes_over with_pixels
only_counted r row {n} {least} {most} b p t k h =
    let none : (eqb r.pixels 0 ≡ false) × (outshines (light_at (code_position row.format most)) (light_at r.position.0) ≡ false) = neither _ _ t in
    let all : 0 + k ≡ k = omega arith in
    subst (λ (j : ℕ). with_pixels r row j ≡ counting_on r k) all
    (rest_counted r row 0 (eqb-false r.pixels 0 none.0) p k (λ j x y. dimmer _ _ _ (light_bounded row b j (omega arith)) none.1))
