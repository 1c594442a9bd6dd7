-- Laws of the rewriting, over every list of bytes: a card that 17 refuses is accepted once it is rewritten, answers as it did before request 12, and is not
-- rewritten again; and what bytes that come after a card change.
use Prim.Native.Nat.{ℕ, zero, suc, ◌+◌, ◌*◌, ◌/◌, ◌%◌, ◌<◌}
use mathlib.Core.List.{List, [], ◌∷◌, ◌++◌}
use mathlib.Core.Logic.{inl, inr}
use mathlib.Core.Path.{◌≡◌, refl, sym, ◌∙◌}
use native.Mathlib.Nat.{mod-lt}
use native.Mathlib.Omega.{arith}
use lib.ListN.{length}
use Rattle.std.specs.Prelude.{Some, None, Result, Ok, Err}
use Rattle.quantity.specs.SampleFormat.{format_of}
use Rattle.big_endian.specs.BigEndian.{number_at}
use Rattle.metadata.specs.Card.{bit, card_bytes, unknown_bit, out_of_range, field_out_of_range, known, names_no_peak, peak, format}
use Rattle.metadata.specs.Card.{card_answer, following, card_wants}
use Rattle.metadata.specs.Rewriting.{rewritten_bits, rewriting_after, rewriting, rewritten}
use Rattle.quantity.specs.declared.Source.{Source}
use Rattle.refusal.specs.declared.Refusal.{Refusal}
use Rattle.refusal.specs.declared.Refusal.TheVariants.{UnknownBit, CardCut, NoPeak}
use Rattle.metadata.proofs.CardLaws.{same_map, settled, follows}
use Rattle.metadata.proofs.NoPeakLaws.{former_answer, assumed, Change, differ_exactly}

-- The rewritten card of each depth and range, a and b in bits 3 and 4: accepted at 4,000 cd/m2, whole, with nothing after it; computed.
new_card : (a b : ℕ) → a < 2 → b < 2
    → (card_answer ((2 + 8 * a + 16 * b) ∷ 15 ∷ 160 ∷ []) ≡ Ok (record { peak = 4000; format = format_of (8 * a + 16 * b) }))
    × (card_wants ((2 + 8 * a + 16 * b) ∷ 15 ∷ 160 ∷ []) ≡ 0)
    × (following ((2 + 8 * a + 16 * b) ∷ 15 ∷ 160 ∷ []) ≡ [])
unfolding card_answer unknown_bit card_bytes field_out_of_range out_of_range known names_no_peak peak format number_at card_wants following
new_card zero zero p q = (refl, refl, refl)
new_card zero (suc zero) p q = (refl, refl, refl)
new_card (suc zero) zero p q = (refl, refl, refl)
new_card (suc zero) (suc zero) p q = (refl, refl, refl)
new_card (suc (suc a)) b p q = absurd (omega arith)
new_card zero (suc (suc b)) p q = absurd (omega arith)
new_card (suc zero) (suc (suc b)) p q = absurd (omega arith)

-- depth and range by the bits that the rewritten card keeps
same_format : (card : List ℕ) → format_of (8 * bit 3 card + 16 * bit 4 card) ≡ format card
unfolding format
same_format card =
    let three : (8 * bit 3 card + 16 * bit 4 card) / 8 % 2 ≡ bit 3 card = omega arith in
    let four : (8 * bit 3 card + 16 * bit 4 card) / 16 % 2 ≡ bit 4 card = omega arith in
    rw (three, four)

-- A card that 17 refuses, once it is rewritten.
module _ (card : List ℕ) (unnamed : card_answer card ≡ Err NoPeak) where
  abbrev new : List ℕ
  new = rewritten_bits card ∷ 15 ∷ 160 ∷ []

  pub new_bytes : rewritten card ≡ new ++ following card
  unfolding rewritten rewriting
  new_bytes = simp unnamed

  at_bits : (card_answer new ≡ Ok (assumed card)) × (card_wants new ≡ 0) × (following new ≡ [])
  unfolding rewritten_bits
  at_bits =
      let computed = new_card (bit 3 card) (bit 4 card) (mod-lt _ (omega arith)) (mod-lt _ (omega arith)) in
      (computed.0 ∙ rw (same_format card), computed.1, computed.2)

  -- It is accepted at 4,000 cd/m2, in the same depth and range.
  pub accepted_then : card_answer (rewritten card) ≡ Ok (assumed card)
  accepted_then = rw new_bytes (settled new (following card) at_bits.1 ∙ at_bits.0)

  -- The same bytes follow it.
  pub followed_alike : following (rewritten card) ≡ following card
  followed_alike = rw new_bytes (follows new (following card) at_bits.0 ∙ rw at_bits.2)

  -- There is nothing to rewrite in it.
  pub rewritten_once : rewriting (rewritten card) ≡ Ok None
  unfolding rewriting
  rewritten_once = simp accepted_then

  -- It answers as the card did before.
  pub answers_as_before : card_answer (rewritten card) ≡ former_answer card
  answers_as_before = go (differ_exactly card)
    where
      go : Change card → card_answer (rewritten card) ≡ former_answer card
      go (inl (now_refused, then_taken)) = accepted_then ∙ sym then_taken
      go (inr (taken_still, same)) = absurd (taken_still unnamed)

-- Only a card that 17 refuses is rewritten.
pub unnamed_of : (card : List ℕ) {new : List ℕ} → rewriting card ≡ Ok (Some new) → card_answer card ≡ Err NoPeak
unfolding rewriting
unnamed_of card {new} h = go (card_answer card) refl
  where
    go : (answer : Result Source Refusal) → card_answer card ≡ answer → card_answer card ≡ Err NoPeak
    go (Err NoPeak) e = e
    go (Ok source) e = let g = simp e at h in let z : ◌≡◌ {A = ℕ} 0 1 = cc in absurd (omega arith)
    go (Err _) e = let g = simp e at h in let z : ◌≡◌ {A = ℕ} 0 1 = cc in absurd (omega arith)

-- Bytes that come after a whole card change nothing of what it is rewritten to.
pub rewriting_settled : (card more : List ℕ) → card_wants card ≡ 0 → 0 < length card → rewriting (card ++ more) ≡ rewriting card
unfolding rewriting rewritten_bits
rewriting_settled card more wanted some = rw (settled card more wanted) (go (card_answer card))
  where
    go : (answer : Result Source Refusal) → rewriting_after answer (card ++ more) ≡ rewriting_after answer card
    go (Ok source) = refl
    go (Err NoPeak) = rw (same_map card more some)
    go (Err _) = refl

-- 00, 18, 01 00 00, 02 00 00, 03 00 00 00 00 and 1B 00 00 00 00, the last before a width of 1, are rewritten; 04, 05 00 00 and 03 00 00 0F A0 name a
-- peak; 01 00 is cut short, 20 has an unknown bit; computed
pub examples :
    (rewriting (0 ∷ []) ≡ Ok (Some (2 ∷ 15 ∷ 160 ∷ [])))
    × (rewriting (24 ∷ []) ≡ Ok (Some (26 ∷ 15 ∷ 160 ∷ [])))
    × (rewriting (1 ∷ 0 ∷ 0 ∷ []) ≡ Ok (Some (2 ∷ 15 ∷ 160 ∷ [])))
    × (rewriting (2 ∷ 0 ∷ 0 ∷ []) ≡ Ok (Some (2 ∷ 15 ∷ 160 ∷ [])))
    × (rewriting (3 ∷ 0 ∷ 0 ∷ 0 ∷ 0 ∷ []) ≡ Ok (Some (2 ∷ 15 ∷ 160 ∷ [])))
    × (rewritten (27 ∷ 0 ∷ 0 ∷ 0 ∷ 0 ∷ 0 ∷ 1 ∷ []) ≡ 26 ∷ 15 ∷ 160 ∷ 0 ∷ 1 ∷ [])
    × (rewriting (4 ∷ []) ≡ Ok None)
    × (rewriting (5 ∷ 0 ∷ 0 ∷ []) ≡ Ok None)
    × (rewriting (3 ∷ 0 ∷ 0 ∷ 15 ∷ 160 ∷ []) ≡ Ok None)
    × (rewriting (1 ∷ 0 ∷ []) ≡ Err CardCut)
    × (rewriting (32 ∷ []) ≡ Err UnknownBit)
unfolding rewritten rewriting rewritten_bits following card_answer unknown_bit card_bytes field_out_of_range out_of_range known names_no_peak peak
    format number_at
examples = (refl, refl, refl, refl, refl, refl, refl, refl, refl, refl, refl)
