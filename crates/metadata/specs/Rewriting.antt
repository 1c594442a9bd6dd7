-- The rewriting of a stored card that names no peak (request 12). It was taken as one of 4,000 cd/m2, and names that as its mastering peak from then on.
use Rattle.std.specs.Prelude.{ℕ, ◌+◌, ◌*◌, ◌/◌, ◌%◌, List, [], ◌∷◌, ◌++◌, Option, Some, None, Result, Ok, Err}
use Rattle.quantity.specs.declared.Source.{Source}
use Rattle.refusal.specs.declared.Refusal.{Refusal}
use Rattle.refusal.specs.declared.Refusal.TheVariants.{NoPeak}
use Rattle.metadata.specs.Card.{bit, card_answer, following}

-- request 12: the mastering peak of a rewritten card, in cd/m2
abbrev pub rewritten_peak : ℕ
rewritten_peak = 4000

-- request 12: its bit map, bit 1 set, bits 3 and 4 kept, every other bit clear
unfoldable pub rewritten_bits : List ℕ → ℕ
rewritten_bits card = 2 + 8 * bit 3 card + 16 * bit 4 card

-- a card's three bytes, or none where there is nothing to rewrite
abbrev pub Rewriting : Type 0
Rewriting = Result (Option (List ℕ)) Refusal

abbrev pub rewriting_after : Result Source Refusal → List ℕ → Rewriting
rewriting_after (Ok source) bytes = Ok None
rewriting_after (Err NoPeak) bytes = Ok (Some (rewritten_bits bytes ∷ rewritten_peak / 256 ∷ rewritten_peak % 256 ∷ []))
rewriting_after (Err refusal) bytes = Err refusal

-- request 12: the three bytes that a rewritten card has; nothing to rewrite where a peak is named; else refusals 1 to 4
unfoldable pub rewriting : List ℕ → Rewriting
rewriting bytes = rewriting_after (card_answer bytes) bytes

-- bytes that open with a card, once it is rewritten: the new bytes before what followed, the same bytes where there is nothing to rewrite, none of a
-- refused card
abbrev pub rewritten_by : Rewriting → List ℕ → List ℕ
rewritten_by (Ok (Some card)) bytes = card ++ following bytes
rewritten_by (Ok None) bytes = bytes
rewritten_by (Err refusal) bytes = []

unfoldable pub rewritten : List ℕ → List ℕ
rewritten bytes = rewritten_by (rewriting bytes) bytes
