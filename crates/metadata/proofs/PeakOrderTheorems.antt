-- The answers that request 07 changes differ on the cards that `PeakOrderLaws` names and on no other, over every list of bytes.
use Prim.Native.Nat.{ℕ, ◌≤◌}
use mathlib.Core.Bool.{Bool, true, false, ◌&&◌}
use mathlib.Core.List.{List, [], ◌∷◌}
use mathlib.Core.Logic.{◌⊎◌, inl, inr}
use mathlib.Core.Path.{◌≡◌, refl, ap, ◌∙◌}
use native.Mathlib.Omega.{arith}
use lib.ListN.{drop}
use lib.Dec.{ltb}
use borrow.Author.Tests.{ltb-true, ltb-false, ne_eqb}
use Rattle.std.specs.Prelude.{Result, Ok, Err}
use Rattle.quantity.specs.declared.Source.{Source}
use Rattle.quantity.specs.Source.{graded_at}
use Rattle.big_endian.specs.BigEndian.{number_at}
use Rattle.metadata.specs.Card.{stands, max_cll, mastering_peak, card_bytes, unknown_bit, out_of_range, field_out_of_range, known, peak, format, declared}
use Rattle.metadata.specs.Card.{names_no_peak, card_answer, end_after, following}
use Rattle.refusal.specs.declared.Refusal.{Refusal}
use Rattle.metadata.proofs.CardLaws.{accepted, or_false, known_in_range}
use Rattle.metadata.proofs.PeakOrderLaws.{former_peak, declared_at, with_peak, former_answer, Changed}

-- Such a card gives 10,000 where it gave its mastering peak.
pub changed : (card : List ℕ) → Changed card
    → (card_answer card ≡ Ok (declared_at 10000 card)) × (former_answer card ≡ Ok (declared_at (mastering_peak card) card))
unfolding peak former_peak known
changed card (accepted, mastered, unconstrained, low, high, none) =
    let named = ne_eqb (mastering_peak card) 0 (omega arith) in
    (accepted ∙ simp (none, unconstrained), rw accepted (simp (none, mastered, named)))

known_stands : (standing : Bool) (v : ℕ) → known standing v ≡ true → standing ≡ true
unfolding known
known_stands true v h = refl
known_stands false v h = h

-- Of an accepted card the orders part only where bit 2 and a mastering peak from 1 to 9,999 stand beside no known MaxCLL.
orders_part : (card : List ℕ) → field_out_of_range card ≡ false → card_answer card ≡ Ok (declared card) → Changed card ⊎ (peak card ≡ former_peak card)
unfolding peak former_peak field_out_of_range
orders_part card fields accepted =
    go (known (stands 0 card) (max_cll card)) (stands 2 card) (known (stands 1 card) (mastering_peak card)) (ltb (mastering_peak card) 10000)
    refl refl refl refl
  where
    range : known (stands 1 card) (mastering_peak card) ≡ true → (1 ≤ mastering_peak card) × (mastering_peak card ≤ 10000)
    range named = known_in_range (stands 1 card) (mastering_peak card) (or_false (stands 0 card && out_of_range (max_cll card)) _ fields).1 named

    go : (a b c d : Bool) → known (stands 0 card) (max_cll card) ≡ a → stands 2 card ≡ b → known (stands 1 card) (mastering_peak card) ≡ c
        → ltb (mastering_peak card) 10000 ≡ d → Changed card ⊎ (peak card ≡ former_peak card)
    go true b c d p q r s = inr (simp p)
    go false false c d p q r s = inr (simp (p, q))
    go false true false d p q r s = inr (simp (p, q, r))
    go false true true true p q r s =
        let below = ltb-true (mastering_peak card) 10000 s in
        inl (accepted, known_stands (stands 1 card) (mastering_peak card) r, q, omega (arith, (range r).0), omega arith, p)
    go false true true false p q r s =
        let top = ltb-false (mastering_peak card) 10000 s in
        inr (simp (p, q, r) (omega (arith, (range r).1)))

changed_or_same : (card : List ℕ) → Changed card ⊎ (card_answer card ≡ former_answer card)
changed_or_same card = go (card_answer card) refl
  where
    same : card_answer card ≡ Ok (declared card) → Changed card ⊎ (peak card ≡ former_peak card) → Changed card ⊎ (card_answer card ≡ former_answer card)
    same e (inl h) = inl h
    same e (inr h) = inr (rw e (rw h))

    go : (answer : Result Source Refusal) → card_answer card ≡ answer → Changed card ⊎ (card_answer card ≡ former_answer card)
    go (Ok source) e =
        let a = accepted card e in
        let declares = e ∙ ap Ok a.2 in
        same declares (orders_part card a.1 declares)
    go (Err refusal) e = inr (rw e)

differs : (card : List ℕ) → Changed card → card_answer card ≡ former_answer card → ⊥
differs card h same =
    let answers = changed card h in
    let sources : declared_at 10000 card ≡ declared_at (mastering_peak card) card = cc in
    let top = ap (λ (source : Source). source.peak) sources in
    omega (arith, h.4)

-- The answers differ on these cards and on no other.
pub differ_exactly : (card : List ℕ)
    → (Changed card × (card_answer card ≡ former_answer card → ⊥)) ⊎ ((Changed card → ⊥) × (card_answer card ≡ former_answer card))
differ_exactly card = go (changed_or_same card)
  where
    go : Changed card ⊎ (card_answer card ≡ former_answer card)
        → (Changed card × (card_answer card ≡ former_answer card → ⊥)) ⊎ ((Changed card → ⊥) × (card_answer card ≡ former_answer card))
    go (inl h) = inl (h, differs card h)
    go (inr same) = inr ((λ h. differs card h same), same)

-- What follows a card is what followed it before.
pub same_following : (card : List ℕ) → following card ≡ drop (end_after (former_answer card) card) card
unfolding following
same_following card = go (card_answer card)
  where
    go : (answer : Result Source Refusal) → drop (end_after answer card) card ≡ drop (end_after (with_peak (former_peak card) card answer) card) card
    go (Ok source) = refl
    go (Err refusal) = refl

-- the peak of a card that declares ten bits and narrow range, and the one of before
abbrev Peaks : List ℕ → ℕ → ℕ → Type 0
Peaks card now before = (card_answer card ≡ Ok (graded_at now)) × (former_answer card ≡ Ok (graded_at before))

-- 06 0F A0, 06 27 10, 07 00 00 0F A0 and 07 03 E8 0F A0, computed
pub examples :
    Peaks (6 ∷ 15 ∷ 160 ∷ []) 10000 4000
    × Peaks (6 ∷ 39 ∷ 16 ∷ []) 10000 10000
    × Peaks (7 ∷ 0 ∷ 0 ∷ 15 ∷ 160 ∷ []) 10000 4000
    × Peaks (7 ∷ 3 ∷ 232 ∷ 15 ∷ 160 ∷ []) 1000 1000
unfolding card_answer unknown_bit card_bytes field_out_of_range out_of_range known names_no_peak peak format former_peak number_at
examples = ((refl, refl), (refl, refl), (refl, refl), (refl, refl))
