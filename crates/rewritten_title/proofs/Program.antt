-- The program over lists, as `rewrite_title` has it, and that it copies a title with its card rewritten. A read of n bytes gives the next n, or as many as
-- there are; each call of a function on slices stands as the definition that its contract promises. What is written to a stream is one list.
use Prim.Native.Nat.{ℕ, zero, suc, ◌*◌, ◌≤◌, ◌<◌}
use mathlib.Core.Bool.{cond}
use mathlib.Core.List.{List, [], ◌∷◌, ◌++◌, append-nil}
use mathlib.Core.Path.{◌≡◌, refl, sym, ap, ◌∙◌}
use native.Mathlib.Decide.{dec_lt}
use native.Mathlib.Omega.{arith}
use lib.Dec.{ltb}
use lib.ListN.{length, take, drop, length-take, length-drop, take-append-drop}
use lib.Seq.{take_all}
use borrow.Author.Tests.{lt-ltb, le-ltb}
use Rattle.listing.specs.Text.{refusal_line_within}
use Rattle.metadata.specs.Card.{card_answer, following}
use Rattle.metadata.specs.Rewriting.{Rewriting, rewriting, rewritten_by, rewritten}
use Rattle.std.specs.Prelude.{Some, None, Ok, Err}
use Rattle.refusal.specs.Number.{number}
use Rattle.refusal.specs.declared.Refusal.TheVariants.{NoPeak}
use Rattle.metadata.proofs.CardLaws.{wants_within, follows_unnamed}
use Rattle.metadata.proofs.RewritingLaws.{unnamed_of, rewriting_settled}
use Rattle.rewritten_title.specs.Title.{told_of, told}

-- `copy_blocks`, of so many blocks
unfoldable pub copied : ℕ → List ℕ → List ℕ
copied zero rest = []
copied (suc blocks) rest =
    let block = take 65536 rest in
    block ++ cond (ltb (length block) 65536) [] (copied blocks (drop 65536 rest))

-- `copy_title`: what is written to standard output, where so much is copied after the first bytes, and what is told
abbrev pub copy_title : Rewriting → List ℕ → List ℕ → List ℕ
copy_title (Ok (Some card)) opening copy = card ++ (following opening ++ copy)
copy_title (Ok None) opening copy = opening ++ copy
copy_title (Err refusal) opening copy = []

abbrev pub tell_title : Rewriting → List ℕ
tell_title (Ok new) = []
tell_title (Err refusal) = refusal_line_within (number refusal) 29

-- `rewrite_title`
unfoldable pub program_bytes : ℕ → List ℕ → List ℕ
program_bytes blocks title = let opening = take 5 title in copy_title (rewriting opening) opening (copied blocks (drop 5 title))

unfoldable pub program_told : List ℕ → List ℕ
program_told title = tell_title (rewriting (take 5 title))

nothing_left : (bytes : List ℕ) → length bytes ≡ 0 → bytes ≡ []
nothing_left [] h = refl
nothing_left (x ∷ xs) h = absurd (omega arith)

-- Enough blocks copy everything.
pub all_copied : (blocks : ℕ) (rest : List ℕ) → length rest ≤ 65536 * blocks → copied blocks rest ≡ rest
unfolding copied
all_copied zero rest h = sym (nothing_left rest (omega arith))
all_copied (suc blocks) rest h = go (dec_lt (length (take 65536 rest)) 65536) (all_copied blocks (drop 65536 rest))
  where
    go : Dec (length (take 65536 rest) < 65536) → (length (drop 65536 rest) ≤ 65536 * blocks → copied blocks (drop 65536 rest) ≡ drop 65536 rest)
        → take 65536 rest ++ cond (ltb (length (take 65536 rest)) 65536) [] (copied blocks (drop 65536 rest)) ≡ rest
    go (yes l) again =
        let short : length rest ≤ 65536 = omega (arith, length-take 65536 rest) in
        simp (lt-ltb (length (take 65536 rest)) 65536 l, append-nil) (take_all 65536 rest short)
    go (no l) again =
        let later = again (omega (arith, length-drop 65536 rest)) in
        simp (le-ltb (length (take 65536 rest)) 65536 (omega arith), later) (take-append-drop 65536 rest)

-- The first five bytes of a title are rewritten as the title is, and what comes after them follows.
first_bytes : (title : List ℕ) → rewriting (take 5 title) ≡ rewriting title
first_bytes title = go (dec_lt (length title) 5)
  where
    go : Dec (length title < 5) → rewriting (take 5 title) ≡ rewriting title
    go (yes l) = ap rewriting (take_all 5 title (omega arith))
    go (no l) =
        let five : length (take 5 title) ≡ 5 = simp length-take (omega arith) in
        let settled = rewriting_settled (take 5 title) (drop 5 title) (omega (arith, wants_within (take 5 title))) (omega arith) in
        sym settled ∙ ap rewriting (take-append-drop 5 title)

first_follows : (title : List ℕ) → card_answer (take 5 title) ≡ Err NoPeak → following (take 5 title) ++ drop 5 title ≡ following title
first_follows title h = sym (follows_unnamed (take 5 title) (drop 5 title) h) ∙ ap following (take-append-drop 5 title)

-- The program copies the title with its card rewritten, and tells what is told of it, whatever the title's bytes, where the blocks are enough.
pub program_bytes_lem : (blocks : ℕ) (title : List ℕ) → length title ≤ 65536 * blocks → program_bytes blocks title ≡ rewritten title
unfolding program_bytes rewritten
program_bytes_lem blocks title h =
    rw (all_copied blocks (drop 5 title) (omega (arith, length-drop 5 title)), ← first_bytes title) (go (rewriting (take 5 title)) refl)
  where
    go : (r : Rewriting) → rewriting (take 5 title) ≡ r → copy_title r (take 5 title) (drop 5 title) ≡ rewritten_by r title
    go (Ok (Some card)) e = ap (λ (l : List ℕ). card ++ l) (first_follows title (unnamed_of (take 5 title) e))
    go (Ok None) e = take-append-drop 5 title
    go (Err refusal) e = refl

pub program_tells : (title : List ℕ) → program_told title ≡ told title
unfolding program_told told refusal_line_within
program_tells title = rw (first_bytes title) (go (rewriting title))
  where
    go : (r : Rewriting) → tell_title r ≡ told_of r
    go (Ok new) = refl
    go (Err refusal) = refl
