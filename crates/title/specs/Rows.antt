-- A title's rows: scope (document 01), "Cards, rows, program", and refusal 11 of "What stops a call".
-- A row is the bytes that came for it, six a pixel where it is whole; a width is its pixels, the limit the most rows that are read.
use Rattle.std.specs.Prelude.{ℕ, zero, suc, ◌*◌, cond, List, [], ◌∷◌, length, take, drop, eqb, ltb, Result, Ok, Err}
use Rattle.refusal.specs.declared.Refusal.{Refusal}
use Rattle.refusal.specs.declared.Refusal.TheVariants.{RowCut}
use Rattle.title.specs.declared.row_bytes.RowBytes.{RowBytes}
use Rattle.title.specs.declared.row_bytes.RowBytes.TheVariants.{Whole, End}

-- scope, What stops a call: no byte means that the title has ended, fewer than the row's mean refusal 11
unfoldable pub row_bytes : ℕ → List ℕ → Result RowBytes Refusal
row_bytes width row =
    cond (eqb (length row) 0) (Ok End)
    (cond (ltb (length row) (6 * width)) (Err RowCut)
    (Ok Whole))

-- scope, program: the rows of what follows a title's width, each the next six bytes a pixel, the last one perhaps cut short; none after the limit,
-- none where no byte is left, and none of 0 pixels, a width that no title has
unfoldable pub title_rows : ℕ → ℕ → List ℕ → List (List ℕ)
title_rows width zero bytes = []
title_rows width (suc limit) bytes =
    let row = take (6 * width) bytes in
    cond (eqb (length row) 0) [] (row ∷ title_rows width limit (drop (6 * width) bytes))
