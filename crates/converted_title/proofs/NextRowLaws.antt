-- Laws of the next row, from its definitions and those of the row call: the bytes of a converted row are its pixels' codes, and its text theirs.
use mathlib.Core.Path.{◌≡◌, refl, ap, ◌∙◌}
use mathlib.Core.Bool.{Bool, true, false, cond}
use mathlib.Core.List.{List, [], append-nil}
use Prim.Native.Nat.{ℕ, ◌*◌, ◌/◌, ◌%◌, ◌-◌, ◌≤◌, ◌<◌}
use native.Mathlib.Omega.{arith}
use lib.Dec.{leb, ltb}
use lib.ListN.{length, drop_of_length-le, length-append, length-drop}
use borrow.Author.Tests.{eq-eqb, ne_eqb, le-ltb}
use Rattle.quantity.specs.declared.Source.{Source}
use Rattle.pixel.specs.Conversion.{code}
use Rattle.std.specs.Prelude.{Result, Ok, Err}
use Rattle.refusal.specs.declared.Refusal.{Refusal}
use Rattle.refusal.specs.declared.Refusal.TheVariants.{Sample}
use Rattle.rows.specs.Row.{pixel_at, converted, span_bytes}
use Rattle.rows.specs.Answer.{first_refused, count_refused, destination_refused, span_refused, span_answer}
use Rattle.rows.proofs.RowLaws.{length_pixels, pixel_of_span}
use Rattle.pq_hlg.specs.Pixel.{peak_refused, sample_refused}
use Rattle.pq_hlg.specs.Row.{row_answer, destination_after}
use Rattle.pq_hlg.proofs.TestLaws.{row_accepted}
use Rattle.listing.specs.Text.{lines, row_text, row_text_within, opened}
use Rattle.listing.proofs.TextLaws.{lines_same}
use Rattle.title.specs.declared.row_bytes.RowBytes.{RowBytes}
use Rattle.title.specs.declared.row_bytes.RowBytes.TheVariants.{Whole, End}
use Rattle.title.specs.Rows.{row_bytes}
use Rattle.title.proofs.RowsLaws.{whole}
use Rattle.converted_title.specs.declared.next_row.Piece.{Piece}
use Rattle.converted_title.specs.NextRow.{NextRow, converted_text, whole_row_answer, whole_row_bytes, after_call, after_bytes, next_row, rows_left, NextPiece}

-- the text of converted bytes, within a buffer
pub converted_text_lem : (source : Source) (row : List ℕ) (n room : ℕ)
    → row_text_within (span_bytes (code source) row 0 n) room ≡ cond (leb (18 * n) room) (lines (λ j. code source (pixel_at row j)) n) []
unfolding row_text_within row_text
converted_text_lem source row n room =
    let bytes = span_bytes (code source) row 0 n in
    let l = length_pixels (converted (code source) row) 0 n in
    let pixels : length bytes / 6 ≡ n = omega arith in
    let text = lines_same (pixel_at bytes) (λ j. code source (pixel_at row j)) n (pixel_of_span (code source) row n) in
    simp (eq-eqb (length bytes % 6) 0 (omega arith), pixels, text)

-- a whole row that is converted fills its destination
pub whole_destination : (source : Source) (row codes : List ℕ) → row_answer source row (length codes) 0 (length row / 6) ≡ Ok tt
    → destination_after source row codes 0 (length row / 6) ≡ whole_row_bytes source row
unfolding destination_after
whole_destination source row codes h =
    let k = (row_accepted source row (length codes) 0 (length row / 6) h).1 in
    let n : length row / 6 - 0 ≡ length row / 6 = omega arith in
    simp (h, n, drop_of_length-le codes {i = 6 * (length row / 6)} (omega (arith, k.same, k.pixels)), append-nil)

-- a row that is refused leaves its destination
pub destination_left : (source : Source) (row codes : List ℕ) {refusal : Refusal}
    → row_answer source row (length codes) 0 (length row / 6) ≡ Err refusal
    → destination_after source row codes 0 (length row / 6) ≡ codes
unfolding destination_after
destination_left source row codes h = simp h

-- which row it is, by what came for it
pub next_by : (source : Source) (width : ℕ) (row : List ℕ) (bytes : ℕ) {came : Result RowBytes Refusal} → row_bytes width row ≡ came
    → next_row source width row bytes ≡ after_bytes came (whole_row_answer source row bytes)
unfolding next_row
next_by source width row bytes h = rw h

after_test : (refused : Bool) (place : ℕ) → after_call (cond refused (Err (Sample place)) (Ok tt)) ≡ cond refused (Err (Sample place)) (Ok Whole)
after_test true place = refl
after_test false place = refl

-- Of the row call's refusals a title's row only meets 9: peak and width are in their ranges, and the codes have the row's length.
pub only_nine : (source : Source) (width : ℕ) (row : List ℕ) → 1 ≤ source.peak → source.peak ≤ 10000 → 1 ≤ width → width ≤ 8192 → length row ≡ 6 * width
    → let i = first_refused (sample_refused source.format) row 0 (3 * width) in
    next_row source width row (length row) ≡ cond (ltb i (3 * width)) (Err (Sample i)) (Ok Whole)
unfolding row_answer peak_refused span_answer count_refused destination_refused span_refused
only_nine source width row p q v w l =
    let pixels : length row / 6 ≡ width = omega arith in
    let some = ne_eqb source.peak 0 (omega arith) in
    let most = le-ltb 10000 source.peak q in
    let sixes = eq-eqb (length row % 6) 0 (omega arith) in
    let short = le-ltb 49152 (length row) (omega arith) in
    let same = eq-eqb (length row) (length row) refl in
    let first = le-ltb width 0 (omega arith) in
    let end = le-ltb width width (omega arith) in
    let all : width - 0 ≡ width = omega arith in
    let i = first_refused (sample_refused source.format) row 0 (3 * width) in
    next_by source width row (length row) (whole width row (omega arith) (omega arith))
    ∙ simp (pixels, some, most, sixes, short, same, first, end, all) (after_test (ltb i (3 * width)) i)

-- the piece of text that a converted row gives
pub listed : (source : Source) (left : ℕ) (row codes text : List ℕ) {n m : ℕ} {codes' text' : List ℕ} → codes' ≡ whole_row_bytes source row
    → n ≡ length (row_text_within codes' (length text)) → text' ≡ opened (row_text_within codes' (length text)) text → m ≡ left - 1
    → NextPiece (Ok Whole) source left row codes text (record { bytes = n; left = m }) codes' text'
unfolding converted_text
listed source left row codes text {n} {m} {codes'} {text'} same k t l =
    let words = ap (λ (bytes : List ℕ). row_text_within bytes (length text)) same ∙ converted_text_lem source row (length row / 6) (length text) in
    let count = rw words at k in
    record { answer = rw (count, l); of_codes = same; of_text = rw words at t }

-- a piece lies within the text buffer
pub piece_fits : {next : NextRow} {source : Source} {left : ℕ} {row codes text : List ℕ} {piece : Piece} {codes' text' : List ℕ}
    → NextPiece next source left row codes text piece codes' text'
    → piece.bytes ≤ length text'
piece_fits {next} {source} {left} {row} {codes} {text} {piece} x =
    let count = ap (λ (p : Piece). p.bytes) x.answer in
    omega (arith, simp (length-append, length-drop) at (ap length x.of_text))

-- rows come to an end: each piece leaves fewer
pub fewer_left : {next : NextRow} {source : Source} {left : ℕ} {row codes text : List ℕ} {piece : Piece} {codes' text' : List ℕ}
    → NextPiece next source left row codes text piece codes' text'
    → 0 < left → piece.left < left
fewer_left {next} {source} {left} {row} {codes} {text} {piece} x h = go next (ap (λ (p : Piece). p.left) x.answer)
  where
    go : (a : NextRow) → piece.left ≡ rows_left a left → piece.left < left
    go (Ok Whole) e = omega arith
    go (Ok End) e = omega arith
    go (Err refusal) e = omega arith
