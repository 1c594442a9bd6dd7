-- Laws of a title's rows, from their definitions: what the bytes that came for a row are, and the rows one by one.
use Prim.Native.Nat.{ℕ, suc, ◌*◌, ◌≤◌, ◌<◌}
use mathlib.Core.List.{List, [], ◌∷◌}
use mathlib.Core.Path.{◌≡◌, sym, ◌∙◌}
use native.Mathlib.Decide.{dec_lt}
use native.Mathlib.Omega.{arith}
use lib.ListN.{length, take, drop, length-take}
use borrow.Author.Tests.{eq-eqb, ne_eqb, lt-ltb, le-ltb}
use Rattle.title.specs.declared.row_bytes.RowBytes.TheVariants.{Whole, End}
use Rattle.std.specs.Prelude.{Ok, Err}
use Rattle.refusal.specs.declared.Refusal.TheVariants.{RowCut}
use Rattle.title.specs.Rows.{row_bytes, title_rows}

-- what came for a row, by its length
module _ (width : ℕ) (row : List ℕ) where
  pub at_end : length row ≡ 0 → row_bytes width row ≡ Ok End
  unfolding row_bytes
  at_end h = simp (eq-eqb (length row) 0 h)

  pub cut_short_lem : (length row ≡ 0 → ⊥) → length row < 6 * width → row_bytes width row ≡ Err RowCut
  unfolding row_bytes
  cut_short_lem h l = simp (ne_eqb (length row) 0 h, lt-ltb (length row) (6 * width) l)

  pub whole : (length row ≡ 0 → ⊥) → 6 * width ≤ length row → row_bytes width row ≡ Ok Whole
  unfolding row_bytes
  whole h l = simp (ne_eqb (length row) 0 h, le-ltb (length row) (6 * width) l)

-- a whole row has all its bytes
pub whole_length : (width : ℕ) (bytes : List ℕ) → row_bytes width (take (6 * width) bytes) ≡ Ok Whole → length (take (6 * width) bytes) ≡ 6 * width
whole_length width bytes h = go (dec_lt (length row) (6 * width)) (dec_lt 0 (length row))
  where
    row : List ℕ
    row = take (6 * width) bytes

    go : Dec (length row < 6 * width) → Dec (0 < length row) → length row ≡ 6 * width
    go (no l) s = omega (arith, length-take (6 * width) bytes)
    go (yes l) (yes s) = let g = sym h ∙ cut_short_lem width row (omega arith) l in let z : ◌≡◌ {A = ℕ} 0 1 = cc in absurd (omega arith)
    go (yes l) (no s) = let g = sym h ∙ at_end width row (omega arith) in let z : ◌≡◌ {A = ℕ} 0 1 = cc in absurd (omega arith)

-- A title's next row: no byte came for it, or it is the first of the rows.
module _ (width limit : ℕ) (bytes : List ℕ) where
  abbrev row : List ℕ
  row = take (6 * width) bytes

  pub no_row : length row ≡ 0 → title_rows width (suc limit) bytes ≡ []
  unfolding title_rows
  no_row h = simp (eq-eqb (length row) 0 h)

  pub one_row : (length row ≡ 0 → ⊥) → title_rows width (suc limit) bytes ≡ row ∷ title_rows width limit (drop (6 * width) bytes)
  unfolding title_rows
  one_row h = simp (ne_eqb (length row) 0 h)
