-- The program over lists, as `convert_title` has it, and that it prints a title's text. A read of n bytes gives the next n, or as many as there are; each
-- call of a function on slices stands as the definition that its contract promises. What is printed is one list.
use Prim.Native.Nat.{ℕ, zero, suc, ◌*◌, ◌/◌, ◌-◌, ◌≤◌, ◌<◌}
use mathlib.Core.Bool.{cond}
use mathlib.Core.List.{List, [], ◌++◌, append-nil}
use mathlib.Core.Path.{◌≡◌, refl, sym, ap, ◌∙◌}
use native.Mathlib.Decide.{dec_lt}
use native.Mathlib.Omega.{arith}
use lib.Dec.{eqb}
use lib.ListN.{length, take, drop, length-take}
use borrow.Author.Tests.{ne_eqb, le-leb}
use Rattle.std.specs.Prelude.{Result, Ok, Err}
use Rattle.quantity.specs.declared.Source.{Source}
use Rattle.refusal.specs.declared.Refusal.{Refusal}
use Rattle.refusal.specs.Number.{number}
use Rattle.listing.specs.Text.{refusal_line_within}
use Rattle.title.specs.declared.opening.Layout.{Layout}
use Rattle.title.specs.declared.row_bytes.RowBytes.{RowBytes}
use Rattle.title.specs.declared.row_bytes.RowBytes.TheVariants.{Whole, End}
use Rattle.title.specs.Opening.{opening_answer, rows_of}
use Rattle.title.specs.Rows.{row_bytes, title_rows}
use Rattle.title.proofs.OpeningLaws.{has_rows}
use Rattle.title.proofs.RowsLaws.{at_end, whole_length, no_row, one_row}
use Rattle.title.proofs.ReadingLaws.{read_opening, Opened, opening_read}
use Rattle.converted_title.specs.NextRow.{NextRow, converted_text, next_row, piece_text, rows_left}
use Rattle.converted_title.specs.Title.{with_row, rows_text, text_after, title_text}
use Rattle.converted_title.proofs.NextRowLaws.{next_by}

-- `print_rows`, of so many turns, with the buffers of `print_title`
unfoldable pub print_rows : ℕ → Source → ℕ → ℕ → List ℕ → List ℕ
print_rows zero source width left rest = []
print_rows (suc turns) source width left rest =
    let row = take (6 * width) rest in
    let next = next_row source width row (6 * width) in
    cond (eqb left 0) [] (piece_text next source row 147456 ++ print_rows turns source width (rows_left next left) (drop (6 * width) rest))

-- `convert_title`
abbrev pub print_title : Result Layout Refusal → ℕ → List ℕ → List ℕ
print_title (Ok layout) limit rest = print_rows limit layout.source layout.width limit rest
print_title (Err refusal) limit rest = refusal_line_within (number refusal) 29

unfoldable pub program_text : ℕ → List ℕ → List ℕ
program_text limit title =
    let read = read_opening 7 [] title in
    print_title (opening_answer read.held) limit read.rest

no_rows_left : (turns : ℕ) (source : Source) (width : ℕ) (rest : List ℕ) → print_rows turns source width 0 rest ≡ []
unfolding print_rows
no_rows_left zero source width rest = refl
no_rows_left (suc turns) source width rest = refl

-- a whole row fills the part of the codes' buffer that is lent for it
same_next : (source : Source) (width : ℕ) (rest : List ℕ)
    → next_row source width (take (6 * width) rest) (length (take (6 * width) rest)) ≡ next_row source width (take (6 * width) rest) (6 * width)
same_next source width rest = go (row_bytes width row) refl
  where
    row : List ℕ
    row = take (6 * width) rest

    go : (b : Result RowBytes Refusal) → row_bytes width row ≡ b → next_row source width row (length row) ≡ next_row source width row (6 * width)
    go (Ok Whole) e = ap (next_row source width row) (whole_length width rest e)
    go (Err refusal) e = next_by source width row (length row) e ∙ sym (next_by source width row (6 * width) e)
    go (Ok End) e = next_by source width row (length row) e ∙ sym (next_by source width row (6 * width) e)

-- Piece by piece the rows' text is printed.
pub rows_printed : (turns : ℕ) (source : Source) (width left : ℕ) (rest : List ℕ) → left ≤ turns → width ≤ 8192
    → print_rows turns source width left rest ≡ rows_text source width (title_rows width left rest)
unfolding print_rows rows_text refusal_line_within title_rows
rows_printed turns source width zero rest h w = no_rows_left turns source width rest
rows_printed zero source width (suc left) rest h w = absurd (omega arith)
rows_printed (suc turns) source width (suc left) rest h w =
    rw (ne_eqb (suc left) 0 (omega arith))
    (by_length (dec_lt 0 (length row)) (rows_printed turns source width left (drop (6 * width) rest) (omega arith) w))
  where
    row : List ℕ
    row = take (6 * width) rest

    later : List ℕ
    later = drop (6 * width) rest

    go : (next : NextRow) → print_rows turns source width left later ≡ rows_text source width (title_rows width left later)
        → piece_text next source row 147456 ++ print_rows turns source width (rows_left next (suc left)) later
        ≡ with_row next (converted_text source row) (rows_text source width (title_rows width left later))
    go (Ok Whole) again =
        let fits : 18 * (length row / 6) ≤ 147456 = omega (arith, length-take (6 * width) rest) in
        let one : suc left - 1 ≡ left = omega arith in
        rw (le-leb (18 * (length row / 6)) 147456 fits, one, again)
    go (Err refusal) again = rw (no_rows_left turns source width later, append-nil)
    go (Ok End) again = no_rows_left turns source width later

    by_length : Dec (0 < length row) → print_rows turns source width left later ≡ rows_text source width (title_rows width left later)
        → piece_text (next_row source width row (6 * width)) source row 147456
        ++ print_rows turns source width (rows_left (next_row source width row (6 * width)) (suc left)) later
        ≡ rows_text source width (title_rows width (suc left) rest)
    by_length (yes s) again =
        rw (one_row width left rest (omega arith), same_next source width rest) (go (next_row source width row (6 * width)) again)
    by_length (no s) again =
        let none : length row ≡ 0 = omega arith in
        rw (next_by source width row (6 * width) (at_end width row none), no_row width left rest none) (no_rows_left turns source width later)

-- The program prints the title's text, whatever the title's bytes and the limit.
pub program_text_lem : (limit : ℕ) (title : List ℕ) → program_text limit title ≡ title_text limit title
unfolding program_text title_text refusal_line_within
program_text_lem limit title = rw read.answer (go (opening_answer title) refl)
  where
    read : Opened title (read_opening 7 [] title)
    read = opening_read title

    rest : List ℕ
    rest = (read_opening 7 [] title).rest

    go : (answer : Result Layout Refusal) → opening_answer title ≡ answer → print_title answer limit rest ≡ text_after answer limit (rows_of title)
    go (Ok layout) e =
        rows_printed limit layout.source layout.width limit rest (omega arith) (has_rows title e).2
        ∙ ap (λ (bytes : List ℕ). rows_text layout.source layout.width (title_rows layout.width limit bytes)) (sym (read.rows layout e))
    go (Err refusal) e = refl
