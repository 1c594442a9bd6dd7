-- Laws of an opening, from its definitions and those of the card: what it asks for, how far it reaches, and what bytes that come after it change.
use Prim.Native.Nat.{ℕ, ◌+◌, ◌-◌, ◌<◌, ◌≤◌}
use mathlib.Core.Bool.{Bool, true, false, true≢false}
use mathlib.Core.List.{List, [], ◌++◌}
use mathlib.Core.Path.{◌≡◌, refl, sym, ap, ◌∙◌}
use native.Mathlib.Decide.{dec_lt}
use native.Mathlib.Omega.{arith}
use lib.Dec.{eqb, ltb}
use lib.ListN.{length, length-append, length-drop, drop_of_length-le}
use lib.Seq.{drop_at}
use borrow.Author.Tests.{eqb-false, ltb-false, le-ltb}
use Rattle.quantity.specs.declared.Source.{Source}
use Rattle.metadata.specs.Card.{card_answer, following, card_wants}
use Rattle.std.specs.Prelude.{Result, Ok, Err}
use Rattle.refusal.specs.declared.Refusal.{Refusal}
use Rattle.metadata.proofs.CardLaws.{wants_none, after_card, at_most_five, wants_within, same_number, settled, follows, wants_on, none_over}
use Rattle.title.specs.declared.opening.Layout.{Layout}
use Rattle.title.specs.Opening.{width, width_refused, width_answer, answer_after, opening_answer, rows_of, asked_after, bytes_asked}

-- what an opening asks for and answers, by its card's answer
pub asked_by : (opening : List ℕ) {answer : Result Source Refusal} → card_answer opening ≡ answer → bytes_asked opening ≡ asked_after answer opening
unfolding bytes_asked
asked_by opening h = rw h

pub answer_by : (opening : List ℕ) {answer : Result Source Refusal} → card_answer opening ≡ answer
    → opening_answer opening ≡ answer_after answer (following opening)
unfolding opening_answer
answer_by opening h = rw h

-- an opening takes at most seven bytes
pub asked_within : (opening : List ℕ) → length opening ≤ 7 → length opening + bytes_asked opening ≤ 7
asked_within opening h = go (card_answer opening) refl
  where
    go : (a : Result Source Refusal) → card_answer opening ≡ a → length opening + bytes_asked opening ≤ 7
    go (Ok source) e =
        let rest = simp length-drop at (ap length (after_card opening e)) in
        omega (arith, asked_by opening e, at_most_five opening)
    go (Err refusal) e = omega (arith, asked_by opening e, wants_within opening)

narrow_in : (bytes : List ℕ) (a b c : Bool) → ltb (length bytes) 2 ≡ a → eqb (width bytes) 0 ≡ b → ltb 8192 (width bytes) ≡ c → width_refused bytes ≡ false
    → (a ≡ false) × (b ≡ false) × (c ≡ false)
unfolding width_refused
narrow_in bytes true b c p q r h = absurd (true≢false (simp (p, q, r) at h))
narrow_in bytes false true c p q r h = absurd (true≢false (simp (p, q, r) at h))
narrow_in bytes false false true p q r h = absurd (true≢false (simp (p, q, r) at h))
narrow_in bytes false false false p q r h = (refl, refl, refl)

-- a title that has rows: what its card declares, and a width from 1 to 8,192 pixels
pub has_rows : (title : List ℕ) {layout : Layout} → opening_answer title ≡ Ok layout
    → (card_answer title ≡ Ok layout.source) × (1 ≤ layout.width) × (layout.width ≤ 8192)
unfolding width_answer
has_rows title {layout} h = at_card (card_answer title) refl
  where
    at_width : (s : Source) (b : Bool) → card_answer title ≡ Ok s → width_refused (following title) ≡ b
        → (card_answer title ≡ Ok layout.source) × (1 ≤ layout.width) × (layout.width ≤ 8192)
    at_width s true e q = let g = simp q at (sym h ∙ answer_by title e) in let z : ◌≡◌ {A = ℕ} 0 1 = cc in absurd (omega arith)
    at_width s false e q =
        let g = simp q at (sym h ∙ answer_by title e) in
        let same : layout ≡ record { source = s; width = width (following title) } = cc in
        let bytes = following title in
        let t = narrow_in bytes (ltb (length bytes) 2) (eqb (width bytes) 0) (ltb 8192 (width bytes)) refl refl refl q in
        let some = eqb-false (width bytes) 0 t.1 in
        let most = ltb-false 8192 (width bytes) t.2 in
        rw same (e, omega arith, omega arith)

    at_card : (a : Result Source Refusal) → card_answer title ≡ a
        → (card_answer title ≡ Ok layout.source) × (1 ≤ layout.width) × (layout.width ≤ 8192)
    at_card (Ok s) e = at_width s (width_refused (following title)) e refl
    at_card (Err refusal) e = let g = sym h ∙ answer_by title e in let z : ◌≡◌ {A = ℕ} 0 1 = cc in absurd (omega arith)

width_settled : (source : Source) (bytes more : List ℕ) → 2 ≤ length bytes → width_answer source (bytes ++ more) ≡ width_answer source bytes
unfolding width_answer width_refused
width_settled source bytes more h =
    let longer = length-append bytes more in
    rw (same_number bytes more 0 h, le-ltb (length (bytes ++ more)) 2 (omega arith), le-ltb (length bytes) 2 h)

-- no more than two bytes follow the card
abbrev pub Tight : List ℕ → Type 0
Tight opening = (source : Source) → card_answer opening ≡ Ok source → length (following opening) ≤ 2

-- Bytes that come after those of an opening.
module _ (opening more : List ℕ) where
  longer : length (opening ++ more) ≡ length opening + length more
  longer = length-append opening more

  longer_rest : {source : Source} → card_answer opening ≡ Ok source
      → length (following (opening ++ more)) ≡ length (following opening) + length more
  longer_rest e = ap length (follows opening more e) ∙ length-append (following opening) more

  -- An opening that asks for nothing answers the same whatever comes after it.
  pub opening_settled : bytes_asked opening ≡ 0 → opening_answer (opening ++ more) ≡ opening_answer opening
  opening_settled h = go (card_answer opening) refl
    where
      go : (a : Result Source Refusal) → card_answer opening ≡ a → opening_answer (opening ++ more) ≡ opening_answer opening
      go (Ok source) e =
          let joined = answer_by (opening ++ more) (settled opening more (wants_none opening e) ∙ e) in
          let width = width_settled source (following opening) more (omega (arith, asked_by opening e)) in
          joined ∙ ap (width_answer source) (follows opening more e) ∙ width ∙ sym (answer_by opening e)
      go (Err refusal) e =
          answer_by (opening ++ more) (settled opening more (sym (asked_by opening e) ∙ h) ∙ e) ∙ sym (answer_by opening e)

  -- Each byte that is asked for is needed: until all are there the opening asks for those that are missing, so none beyond it is read.
  pub asks_on : length more < bytes_asked opening → bytes_asked (opening ++ more) ≡ bytes_asked opening - length more
  asks_on h = go (card_answer opening) refl
    where
      still : (a : Result Source Refusal) → card_answer (opening ++ more) ≡ a → 0 < card_wants (opening ++ more)
          → bytes_asked (opening ++ more) ≡ card_wants (opening ++ more)
      still (Ok source) e w = absurd (omega (arith, wants_none (opening ++ more) e))
      still (Err refusal) e w = asked_by (opening ++ more) e

      go : (a : Result Source Refusal) → card_answer opening ≡ a → bytes_asked (opening ++ more) ≡ bytes_asked opening - length more
      go (Ok source) e =
          omega (arith, asked_by (opening ++ more) (settled opening more (wants_none opening e) ∙ e), asked_by opening e, longer_rest e)
      go (Err refusal) e =
          let wanted = asked_by opening e in
          let now_wanted = wants_on opening more (omega arith) in
          omega (arith, still (card_answer (opening ++ more)) refl (omega arith))

  -- No more bytes than are asked for leave at most two after the card.
  pub tight_on : Tight opening → length more ≤ bytes_asked opening → Tight (opening ++ more)
  tight_on tight h source d = go (card_answer opening) refl
    where
      at_card : (refusal : Refusal) → card_answer opening ≡ Err refusal → Dec (0 < card_wants opening) → length (following (opening ++ more)) ≤ 2
      at_card refusal e (yes z) =
          let wanted = asked_by opening e in
          let whole = none_over opening more z (omega arith) in
          rw (after_card (opening ++ more) d, drop_of_length-le (opening ++ more) whole) (omega arith)
      at_card refusal e (no z) =
          let g = sym d ∙ settled opening more (omega arith) ∙ e in
          let o : ◌≡◌ {A = ℕ} 0 1 = cc in
          absurd (omega arith)

      go : (a : Result Source Refusal) → card_answer opening ≡ a → length (following (opening ++ more)) ≤ 2
      go (Ok s) e = omega (arith, tight _ e, asked_by opening e, longer_rest e)
      go (Err refusal) e = at_card refusal e (dec_lt 0 (card_wants opening))

  -- What comes after a whole opening are the rows.
  pub rows_after : Tight opening → bytes_asked opening ≡ 0 → {source : Source} → card_answer opening ≡ Ok source
      → rows_of (opening ++ more) ≡ more
  unfolding rows_of
  rows_after tight h e =
      rw (follows opening more e) (drop_at (following opening) more 2 (omega (arith, tight _ e, asked_by opening e)))

-- A title that ends within its opening has no rows.
pub no_rows : (opening : List ℕ) → Tight opening → {source : Source} → card_answer opening ≡ Ok source → rows_of opening ≡ []
unfolding rows_of
no_rows opening tight e = drop_of_length-le (following opening) (tight _ e)
