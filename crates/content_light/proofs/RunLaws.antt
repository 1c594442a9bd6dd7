-- A run over a title's rows: the calls in order, one a row, give just what the definitions give of the whole list, each refused row's number and
-- place among it.
use mathlib.Core.Path.{◌≡◌, refl, sym, ap, ◌∙◌}
use mathlib.Core.Bool.{Bool, true, false}
use mathlib.Core.List.{List, [], ◌∷◌}
use Prim.Native.Nat.{ℕ, zero, suc, min}
use native.Mathlib.Omega.{arith}
use lib.Dec.{eqb}
use Rattle.std.specs.Prelude.{Result, Ok, Err}
use borrow.Author.Tests.{ne_eqb}
use Rattle.position.specs.Position.{light_at}
use Rattle.pixel.specs.Conversion.{brightest_light}
use Rattle.pixel.proofs.PixelLaws.{brightest_lit}
use Rattle.rows.specs.Row.{pixel_at}
use Rattle.refusal.specs.declared.Refusal.{Refusal}
use Rattle.content_light.specs.declared.RunRecord.{RunRecord}
use Rattle.content_light.specs.Peak.{CodedRow, pixels_of, Test, accepted, refused, row_test, tests}
use Rattle.content_light.specs.Peak.{accepted_rows, outshines, after, after_pixels, after_rows, peak_of, measured}
use Rattle.content_light.specs.Run.{most_pixels, fresh_record, takes_over, with_pixel, position_of}
use Rattle.content_light.specs.Run.{with_pixels, with_row, answer_after, record_answer, held, peak_answer}
use Rattle.content_light.proofs.RecordLaws.{most_pixels_lem, rows_kept}
use Rattle.content_light.proofs.RangeLaws.{InRange, fresh_in_range, read_same, taken, in_range_row}

-- ---- the calls
-- what the next call takes: the record answered, or after a refusal the caller's own
abbrev pub carried : Result RunRecord Refusal → RunRecord → RunRecord
carried (Ok s) r = s
carried (Err refusal) r = r

-- the record after a call for each row, and what the calls answered
unfoldable pub record_after : RunRecord → List CodedRow → RunRecord
record_after r [] = r
record_after r (row ∷ later) = record_after (carried (record_answer r row) r) later

unfoldable pub answers_of : RunRecord → List CodedRow → List (Result RunRecord Refusal)
answers_of r [] = []
answers_of r (row ∷ later) = let a = record_answer r row in a ∷ answers_of (carried a r) later

-- an answer as a test: accepted, or the refusal
abbrev pub told : Result RunRecord Refusal → Test
told (Ok s) = accepted
told (Err refusal) = refused refusal

unfoldable pub all_told : List (Result RunRecord Refusal) → List Test
all_told [] = []
all_told (a ∷ later) = told a ∷ all_told later

-- ---- the brightest pixel that a record holds is that of the pixels counted into it
held_after : (r : RunRecord) (m j : ℕ) → held (with_pixel r m j) ≡ after (held r) (light_at m) r.rows j
unfolding held with_pixel takes_over after
held_after r m j = go (eqb r.pixels 0) (outshines (light_at m) (light_at r.position.0)) refl refl
  where
    some : eqb (min (suc r.pixels) most_pixels) 0 ≡ false
    some = ne_eqb _ 0 (λ (z : min (suc r.pixels) most_pixels ≡ 0). omega (arith, most_pixels_lem))

    go : (a b : Bool) → eqb r.pixels 0 ≡ a → outshines (light_at m) (light_at r.position.0) ≡ b
        → held (with_pixel r m j) ≡ after (held r) (light_at m) r.rows j
    go true b p q = simp (p, some)
    go false true p q = simp (p, q, some)
    go false false p q = simp (p, q, some)

held_pixels : (r : RunRecord) (row : CodedRow) (n : ℕ) → held (with_pixels r row n) ≡ after_pixels (held r) r.rows row n
unfolding with_pixels after_pixels brightest_light
held_pixels r row zero = refl
held_pixels r row (suc n) =
    let s = with_pixels r row n in
    held_after s (position_of row n) n
    ∙ rw (held_pixels r row n, rows_kept r row n, sym (brightest_lit row.format (pixel_at row.bytes n)))

pub held_row : (r : RunRecord) (row : CodedRow) → held (with_row r row) ≡ after_pixels (held r) r.rows row (pixels_of row)
unfolding with_row held
held_row r row = held_pixels r row (pixels_of row)

pub rows_of_row : (r : RunRecord) (row : CodedRow) → (with_row r row).rows ≡ suc r.rows
unfolding with_row
rows_of_row r row = ap suc (rows_kept r row (pixels_of row))

-- ---- row by row
-- a call on a record in its ranges answers by the row's test
pub answered : (r : RunRecord) (row : CodedRow) → InRange r → record_answer r row ≡ answer_after (row_test r.rows row) (with_row r row)
unfolding record_answer
answered r row x = ap (λ (s : RunRecord). answer_after (row_test s.rows row) (with_row s row)) (read_same r x)

-- what is kept from row to row: the ranges, the brightest pixel of the accepted rows, and the tests that the answers tell
pub record Follows (r : RunRecord) (rows : List CodedRow) : Type 0 where
  pub range : InRange (record_after r rows)
  pub holds : held (record_after r rows) ≡ after_rows (held r) r.rows (accepted_rows r.rows rows)
  pub tells : all_told (answers_of r rows) ≡ tests r.rows rows

follows : (r : RunRecord) (rows : List CodedRow) → InRange r → Follows r rows
unfolding record_after answers_of all_told accepted_rows tests after_rows
follows r [] x = record { range = x; holds = refl; tells = refl }
follows r (row ∷ later) x = go (row_test r.rows row) refl (follows (with_row r row) later) (follows r later x)
  where
    go : (t : Test) → row_test r.rows row ≡ t → (InRange (with_row r row) → Follows (with_row r row) later) → Follows r later → Follows r (row ∷ later)
    go accepted e more same =
        let y = more (in_range_row r row x (taken r.rows row e)) in
        let a = answered r row x ∙ ap (λ (t : Test). answer_after t (with_row r row)) e in
        record {
          range = rw a y.range;
          holds = rw (a, e) (y.holds ∙ rw (held_row r row, rows_of_row r row));
          tells = rw (a, e) (ap (λ (l : List Test). accepted ∷ l) (y.tells ∙ ap (λ (n : ℕ). tests n later) (rows_of_row r row)));
        }
    go (refused refusal) e more same =
        let a = answered r row x ∙ ap (λ (t : Test). answer_after t (with_row r row)) e in
        record {
          range = rw a same.range;
          holds = rw (a, e) same.holds;
          tells = rw (a, e) (ap (λ (l : List Test). refused refusal ∷ l) same.tells);
        }

module _ (rows : List CodedRow) where
  -- Whatever the rows, a run from a fresh record measures what the definitions give of all of them,
  pub run_measures : peak_answer (record_after fresh_record rows) ≡ measured rows
  unfolding peak_answer measured held
  run_measures =
      let x = follows fresh_record rows fresh_in_range in
      ap (λ (r : RunRecord). peak_of (held r)) (read_same (record_after fresh_record rows) x.range) ∙ ap peak_of x.holds

  -- and its calls refuse the rows that the definitions refuse, with number and place.
  pub run_refuses : all_told (answers_of fresh_record rows) ≡ tests 0 rows
  run_refuses = (follows fresh_record rows fresh_in_range).tells
