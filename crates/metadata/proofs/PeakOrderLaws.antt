-- Which answers request 07 changes, over every list of bytes: unconstrained decides before the mastering peak now. The order of before is said here alone;
-- `PeakOrderTheorems` shows that the answers differ on these cards and on no other.
use Prim.Native.Nat.{ℕ, ◌≤◌}
use mathlib.Core.Bool.{true, false, cond}
use mathlib.Core.List.{List}
use mathlib.Core.Path.{◌≡◌}
use Rattle.std.specs.Prelude.{Result, Ok, Err}
use Rattle.quantity.specs.declared.Source.{Source}
use Rattle.metadata.specs.Card.{stands, max_cll, mastering_peak, known, format, declared, card_answer}
use Rattle.refusal.specs.declared.Refusal.{Refusal}

-- the peak of before, where a known mastering peak decided before unconstrained
unfoldable pub former_peak : List ℕ → ℕ
former_peak card =
    cond (known (stands 0 card) (max_cll card)) (max_cll card)
    (cond (known (stands 1 card) (mastering_peak card)) (mastering_peak card)
    (cond (stands 2 card) 10000
    0))

-- what the card declares if its peak is p
abbrev pub declared_at : ℕ → List ℕ → Source
declared_at p card = record { peak = p; format = format card }

abbrev pub with_peak : ℕ → List ℕ → Result Source Refusal → Result Source Refusal
with_peak p card (Ok source) = Ok (declared_at p card)
with_peak p card (Err refusal) = Err refusal

-- the answer of before: the same refusals, and the peak of before where the card is accepted
abbrev pub former_answer : List ℕ → Result Source Refusal
former_answer card = with_peak (former_peak card) card (card_answer card)

-- the cards whose answer changes: accepted, bits 1 and 2 stand, the mastering peak lies from 1 to 9,999 cd/m2, MaxCLL is not known
abbrev pub Changed : List ℕ → Type 0
Changed card =
    (card_answer card ≡ Ok (declared card)) × (stands 1 card ≡ true) × (stands 2 card ≡ true) × (1 ≤ mastering_peak card)
    × (mastering_peak card ≤ 9999) × (known (stands 0 card) (max_cll card) ≡ false)
