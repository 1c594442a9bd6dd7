-- Which answers request 12 changes, over every list of bytes: a card that names no peak is refused now and was taken as 4,000 cd/m2. The choice of before is
-- said here alone.
use Prim.Native.Nat.{ℕ, ◌<◌}
use mathlib.Core.Bool.{Bool, true, false, cond, not, ◌&&◌}
use mathlib.Core.List.{List}
use mathlib.Core.Logic.{◌⊎◌, inl, inr}
use mathlib.Core.Path.{◌≡◌, refl, ap}
use native.Mathlib.Omega.{arith}
use lib.ListN.{length, drop}
use lib.Dec.{eqb}
use Rattle.std.specs.Prelude.{Result, Ok, Err}
use Rattle.quantity.specs.declared.Source.{Source}
use Rattle.metadata.specs.Card.{stands, max_cll, mastering_peak, card_bytes, unknown_bit, cut_short, field_out_of_range, known, names_no_peak, peak, format}
use Rattle.metadata.specs.Card.{declared, card_answer, end_after, following}
use Rattle.refusal.specs.declared.Refusal.{Refusal}
use Rattle.refusal.specs.Number.{number}
use Rattle.refusal.specs.declared.Refusal.TheVariants.{CardEmpty, UnknownBit, CardCut, FieldOutOfRange, NoPeak}

-- the peak of before, 4,000 where nothing is known
unfoldable pub former_peak : List ℕ → ℕ
former_peak card =
    cond (known (stands 0 card) (max_cll card)) (max_cll card)
    (cond (stands 2 card) 10000
    (cond (known (stands 1 card) (mastering_peak card)) (mastering_peak card)
    4000))

-- the answer of before, without refusal 17, and what followed a card then
unfoldable pub former_answer : List ℕ → Result Source Refusal
former_answer card =
    cond (eqb (length card) 0) (Err CardEmpty)
    (cond (unknown_bit card) (Err UnknownBit)
    (cond (cut_short card) (Err CardCut)
    (cond (field_out_of_range card) (Err FieldOutOfRange)
    (Ok (record { peak = former_peak card; format = format card })))))

abbrev former_end : Result Source Refusal → List ℕ → ℕ
former_end (Ok source) card = card_bytes card
former_end (Err refusal) card = length card

unfoldable pub former_following : List ℕ → List ℕ
former_following card = drop (former_end (former_answer card) card) card

-- what a card of that depth and range declares at 4,000 cd/m2
abbrev pub assumed : List ℕ → Source
assumed card = record { peak = 4000; format = format card }

former_peak_lem : (card : List ℕ) → former_peak card ≡ cond (names_no_peak card) 4000 (peak card)
unfolding former_peak peak names_no_peak
former_peak_lem card = go (known (stands 0 card) (max_cll card)) (known (stands 1 card) (mastering_peak card)) (stands 2 card)
  where
    go : (a b c : Bool)
        → cond a (max_cll card) (cond c 10000 (cond b (mastering_peak card) 4000))
        ≡ cond (not a && not b && not c) 4000 (cond a (max_cll card) (cond c 10000 (cond b (mastering_peak card) 0)))
    go true b c = refl
    go false true true = refl
    go false true false = refl
    go false false true = refl
    go false false false = refl

-- A card is refused by 17 and was taken as 4,000 cd/m2, or it is answered as before.
abbrev pub Change : List ℕ → Type 0
Change card =
    ((card_answer card ≡ Err NoPeak) × (former_answer card ≡ Ok (assumed card)))
    ⊎ ((card_answer card ≡ Err NoPeak → ⊥) × (card_answer card ≡ former_answer card))

-- The answers differ on the cards that 17 refuses, and on no other.
pub differ_exactly : (card : List ℕ) → Change card
unfolding card_answer former_answer
differ_exactly card = go (eqb (length card) 0) (unknown_bit card) (cut_short card) (field_out_of_range card) (names_no_peak card) refl
  where
    now_at : (a b c d e : Bool) → Result Source Refusal
    now_at a b c d e =
        cond a (Err CardEmpty)
        (cond b (Err UnknownBit) (cond c (Err CardCut) (cond d (Err FieldOutOfRange) (cond e (Err NoPeak) (Ok (declared card))))))

    then_at : (a b c d : Bool) → Result Source Refusal
    then_at a b c d =
        cond a (Err CardEmpty)
        (cond b (Err UnknownBit) (cond c (Err CardCut) (cond d (Err FieldOutOfRange) (Ok (record { peak = former_peak card; format = format card })))))

    other : (r : Refusal) → number r < 17 → ◌≡◌ {A = Result Source Refusal} (Err r) (Err NoPeak) → ⊥
    other r l h = let z : r ≡ NoPeak = cc in omega (arith, ap number z)

    go : (a b c d e : Bool) → names_no_peak card ≡ e
        → ((now_at a b c d e ≡ Err NoPeak) × (then_at a b c d ≡ Ok (assumed card)))
        ⊎ ((now_at a b c d e ≡ Err NoPeak → ⊥) × (now_at a b c d e ≡ then_at a b c d))
    go true b c d e p = inr (other CardEmpty (omega arith), refl)
    go false true c d e p = inr (other UnknownBit (omega arith), refl)
    go false false true d e p = inr (other CardCut (omega arith), refl)
    go false false false true e p = inr (other FieldOutOfRange (omega arith), refl)
    go false false false false true p = inl (refl, rw (former_peak_lem card, p))
    go false false false false false p = inr ((λ h. let z : ◌≡◌ {A = ℕ} 0 1 = cc in omega arith), rw (former_peak_lem card, p))

-- What follows a card is what followed it before, also where 17 refuses it.
pub same_following : (card : List ℕ) → following card ≡ former_following card
unfolding following former_following
same_following card = go (differ_exactly card)
  where
    alike : (answer : Result Source Refusal) → (answer ≡ Err NoPeak → ⊥) → end_after answer card ≡ former_end answer card
    alike (Ok source) h = refl
    alike (Err NoPeak) h = absurd (h refl)
    alike (Err _) h = refl

    go : Change card → drop (end_after (card_answer card) card) card ≡ drop (former_end (former_answer card) card) card
    go (inl (now_refused, then_taken)) = rw (now_refused, then_taken)
    go (inr (taken_still, same)) = rw (← same) (ap (λ (n : ℕ). drop n card) (alike (card_answer card) taken_still))
