-- A field of 0 counts for nothing, from the definitions of a card: both calls answer as for the card without it, whose bit is clear and whose two bytes
-- are gone, be it accepted, refused or cut short.
use Prim.Native.Nat.{ℕ, ◌+◌, ◌*◌, ◌/◌, ◌%◌, ◌<◌}
use mathlib.Core.Bool.{Bool, true, false, cond, ◌||◌, ◌&&◌}
use mathlib.Core.List.{List, [], ◌∷◌}
use mathlib.Core.Path.{◌≡◌, refl, sym, ◌∙◌}
use native.Mathlib.Omega.{arith}
use lib.ListN.{length, drop, drop_of_length-le}
use lib.Dec.{ltb, eqb}
use borrow.Author.Tests.{ne_eqb, lt-ltb, le-ltb, ltb-true, ltb-false}
use Rattle.std.specs.Prelude.{Result, Ok, Err}
use Rattle.big_endian.specs.BigEndian.{number_at}
use Rattle.metadata.specs.Card.{bit, stands, field, max_cll, mastering_peak, card_bytes, unknown_bit, known, out_of_range, field_out_of_range, format}
use Rattle.metadata.specs.Card.{card_answer, end_after, following}
use Rattle.quantity.specs.declared.Source.{Source}
use Rattle.refusal.specs.declared.Refusal.{Refusal}
use Rattle.refusal.specs.declared.Refusal.TheVariants.{NoPeak}
use Rattle.metadata.proofs.CardLaws.{choice, same_choices, named_alike}

-- The card's two calls answer alike.
abbrev pub Alike : List ℕ → List ℕ → Type 0
Alike x y = (card_answer x ≡ card_answer y) × (following x ≡ following y)

-- What a card's two lowest bits, as a number p below 4, make of it: its length, whether a field is out of range, what each field leaves of a choice.
abbrev bytes_by : ℕ → ℕ
bytes_by p = 1 + 2 * (p % 2 + p / 2)

abbrev outside_by : ℕ → List ℕ → Bool
outside_by p card = (eqb (p % 2) 1 && out_of_range (field 0 card)) || (eqb (p / 2) 1 && out_of_range (field (p % 2) card))

-- what MaxCLL and the mastering peak leave of the next choice
abbrev max_cllby : ℕ → List ℕ → ℕ → ℕ
max_cllby p card = choice (eqb (p % 2) 1) (field 0 card)

abbrev mastering_peak_by : ℕ → List ℕ → ℕ → ℕ
mastering_peak_by p card = choice (eqb (p / 2) 1) (field (p % 2) card)

-- A card whose bit map is 4c + p, by p.
module _ (c p : ℕ) (h : p < 4) (xs : List ℕ) where
  zero_bit : bit 0 ((4 * c + p) ∷ xs) ≡ p % 2
  zero_bit = omega arith

  one_bit : bit 1 ((4 * c + p) ∷ xs) ≡ p / 2
  one_bit = omega arith

  unknown_by : unknown_bit ((4 * c + p) ∷ xs) ≡ unknown_bit ((4 * c) ∷ [])
  unfolding unknown_bit
  unknown_by =
      let five : (4 * c + p) / 32 ≡ (4 * c) / 32 = omega arith in
      let six : (4 * c + p) / 64 ≡ (4 * c) / 64 = omega arith in
      let seven : (4 * c + p) / 128 ≡ (4 * c) / 128 = omega arith in
      rw (five, six, seven)

  format_by : format ((4 * c + p) ∷ xs) ≡ format ((4 * c) ∷ [])
  unfolding format
  format_by =
      let three : (4 * c + p) / 8 ≡ (4 * c) / 8 = omega arith in
      let four : (4 * c + p) / 16 ≡ (4 * c) / 16 = omega arith in
      rw (three, four)

  bytes_by_lem : card_bytes ((4 * c + p) ∷ xs) ≡ bytes_by p
  unfolding card_bytes
  bytes_by_lem = rw (zero_bit, one_bit)

  outside_by_lem : field_out_of_range ((4 * c + p) ∷ xs) ≡ outside_by p ((4 * c + p) ∷ xs)
  unfolding field_out_of_range
  outside_by_lem = rw (zero_bit, one_bit)

  two_bit : bit 2 ((4 * c + p) ∷ xs) ≡ c % 2
  two_bit = omega arith

  max_cll_by : (next : ℕ) → choice (stands 0 ((4 * c + p) ∷ xs)) (max_cll ((4 * c + p) ∷ xs)) next ≡ max_cllby p ((4 * c + p) ∷ xs) next
  max_cll_by next = rw zero_bit

  mastering_peak_by_lem : (next : ℕ)
      → choice (stands 1 ((4 * c + p) ∷ xs)) (mastering_peak ((4 * c + p) ∷ xs)) next ≡ mastering_peak_by p ((4 * c + p) ∷ xs) next
  mastering_peak_by_lem next = rw (zero_bit, one_bit)

same_order : (m n k l : ℕ) → m ≡ k + 2 → n ≡ l + 2 → ltb m n ≡ ltb k l
same_order m n k l e f = go (ltb k l) refl
  where
    go : (b : Bool) → ltb k l ≡ b → ltb m n ≡ b
    go true g = let i = ltb-true k l g in lt-ltb m n (omega arith)
    go false g = let i = ltb-false k l g in le-ltb m n (omega arith)

-- Two cards of which one has a field more, where that changes neither what is out of range nor the peak nor what comes after; depth and range are
-- in the bits above.
same_answers : (c p q : ℕ) (xs ys : List ℕ) → p < 4 → q < 4 → length xs ≡ length ys + 2 → bytes_by p ≡ bytes_by q + 2
    → outside_by p ((4 * c + p) ∷ xs) ≡ outside_by q ((4 * c + q) ∷ ys)
    → ((next : ℕ) → max_cllby p ((4 * c + p) ∷ xs) next ≡ max_cllby q ((4 * c + q) ∷ ys) next)
    → ((next : ℕ) → mastering_peak_by p ((4 * c + p) ∷ xs) next ≡ mastering_peak_by q ((4 * c + q) ∷ ys) next)
    → drop (bytes_by p) ((4 * c + p) ∷ xs) ≡ drop (bytes_by q) ((4 * c + q) ∷ ys) → Alike ((4 * c + p) ∷ xs) ((4 * c + q) ∷ ys)
unfolding card_answer following
same_answers c p q xs ys g h longer bytes outside first second rest = (same, rw same (go (card_answer y)))
  where
    x : List ℕ
    x = (4 * c + p) ∷ xs

    y : List ℕ
    y = (4 * c + q) ∷ ys

    same : card_answer x ≡ card_answer y
    same =
        let unknown = unknown_by c p g xs ∙ sym (unknown_by c q h ys) in
        let cut = same_order (length x) (card_bytes x) (length y) (card_bytes y) (omega arith) (omega (arith, bytes_by_lem c p g xs, bytes_by_lem c q h ys)) in
        let fields = outside_by_lem c p g xs ∙ outside ∙ sym (outside_by_lem c q h ys) in
        let chosen =
        same_choices x y (rw (two_bit c p g xs, two_bit c q h ys))
        (λ next. max_cll_by c p g xs next ∙ first next ∙ sym (max_cll_by c q h ys next))
        (λ next. mastering_peak_by_lem c p g xs next ∙ second next ∙ sym (mastering_peak_by_lem c q h ys next)) in
        let coded = format_by c p g xs ∙ sym (format_by c q h ys) in
        simp (ne_eqb (length x) 0 (omega arith), ne_eqb (length y) 0 (omega arith), unknown, cut, fields, named_alike x y chosen, chosen, coded)

    refused : (whole : Bool) → drop (cond whole (card_bytes x) (length x)) x ≡ drop (cond whole (card_bytes y) (length y)) y
    refused true = rw (bytes_by_lem c p g xs, bytes_by_lem c q h ys) rest
    refused false = drop_of_length-le xs {i = length xs} (omega arith) ∙ sym (drop_of_length-le ys {i = length ys} (omega arith))

    go : (answer : Result Source Refusal) → drop (end_after answer x) x ≡ drop (end_after answer y) y
    go (Ok source) = refused true
    go (Err NoPeak) = refused true
    go (Err _) = refused false

-- MaxCLL of 0 alone and before a mastering peak, a mastering peak of 0 alone and after MaxCLL; c has the bits above these two.
pub zero_field : (c high low : ℕ) (rest : List ℕ)
    → Alike ((4 * c + 1) ∷ 0 ∷ 0 ∷ rest) ((4 * c + 0) ∷ rest)
    × Alike ((4 * c + 3) ∷ 0 ∷ 0 ∷ rest) ((4 * c + 2) ∷ rest)
    × Alike ((4 * c + 2) ∷ 0 ∷ 0 ∷ rest) ((4 * c + 0) ∷ rest)
    × Alike ((4 * c + 3) ∷ high ∷ low ∷ 0 ∷ 0 ∷ rest) ((4 * c + 1) ∷ high ∷ low ∷ rest)
unfolding known out_of_range number_at
zero_field c high low rest = (
  same_answers c 1 0 (0 ∷ 0 ∷ rest) rest (omega arith) (omega arith) (omega arith) refl refl (λ next. refl) (λ next. refl) refl,
  same_answers c 3 2 (0 ∷ 0 ∷ rest) rest (omega arith) (omega arith) (omega arith) refl refl (λ next. refl) (λ next. refl) refl,
  same_answers c 2 0 (0 ∷ 0 ∷ rest) rest (omega arith) (omega arith) (omega arith) refl refl (λ next. refl) (λ next. refl) refl,
  same_answers c 3 1 (high ∷ low ∷ 0 ∷ 0 ∷ rest) (high ∷ low ∷ rest) (omega arith) (omega arith) (omega arith) refl refl (λ next. refl) (λ next. refl) refl,
)
