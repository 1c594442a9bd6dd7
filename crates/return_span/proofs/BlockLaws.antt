-- Laws of a block's passes: one pixel more with its scene lights and its root, and any of them; and the pixel that is read from a chunk of a row.
use Rattle.std.proofs.Common.{◌≡◌, ℕ, ◌+◌, ◌*◌, ◌<◌, List, length, get_or, take, drop, set, ◌∙◌, arith, get_or-set_other, get_or-set_same}
use native.Mathlib.Decide.{dec_lt}
use Rattle.quantity.specs.Component.{components}
use Rattle.quantity.specs.declared.Rgb.{Rgb}
use Rattle.rows.specs.Row.{sample_at, pixel_at}
use Rattle.rows.proofs.RowLaws.{sample_of_part}
use Rattle.return_span.specs.declared.scene.Rooted.{Rooted}
use Rattle.return_span.specs.Settled.{IsRooted, RootedTo}

pub rooted_none : (row : List ℕ) (block : List Rooted) → RootedTo row block 0
unfolding RootedTo
rooted_none row block = λ j none h. absurd (omega arith)

pub rooted_more : (row : List ℕ) (block : List Rooted) (j : ℕ) (x : Rooted) → RootedTo row block j → IsRooted (pixel_at row j) x → j < length block
    → RootedTo row (set block j x) (j + 1)
unfolding RootedTo
rooted_more row block j x before here fits = λ k none h. go k none h (dec_lt k j)
  where
    go : (k : ℕ) (none : Rooted) → k < j + 1 → Dec (k < j) → IsRooted (pixel_at row k) (get_or (set block j x) k none)
    go k none h (yes l) = rw (get_or-set_other block j k x none (λ e. omega arith)) (before k none l)
    go k none h (no l) = let e : k ≡ j = omega arith in rw (e, get_or-set_same block j x none fits) here

pub rooted_at : (row : List ℕ) (block : List Rooted) (n j : ℕ) (none : Rooted) → RootedTo row block n → j < n → IsRooted (pixel_at row j) (get_or block j none)
unfolding RootedTo
rooted_at row block n j none all i = all j none i

-- a pixel whose samples are read from a chunk of a row is the row's
module _ (row x : List ℕ) (j : ℕ) (p : Rgb ℕ) (chunk : x ≡ take 6 (drop (6 * j) row))
    (read : (p.red ≡ sample_at x 0) × (p.green ≡ sample_at x 1) × (p.blue ≡ sample_at x 2)) where
  red_read : p.red ≡ sample_at row (3 * j)
  red_read = rw chunk at read.0 ∙ sample_of_part row (6 * j) 6 0 (3 * j) (omega arith) (omega arith)

  green_read : p.green ≡ sample_at row (3 * j + 1)
  green_read = rw chunk at read.1 ∙ sample_of_part row (6 * j) 6 1 (3 * j + 1) (omega arith) (omega arith)

  blue_read : p.blue ≡ sample_at row (3 * j + 2)
  blue_read = rw chunk at read.2 ∙ sample_of_part row (6 * j) 6 2 (3 * j + 2) (omega arith) (omega arith)

  pub pixel_read : components p ≡ pixel_at row j
  pixel_read = rw (red_read, green_read, blue_read)
