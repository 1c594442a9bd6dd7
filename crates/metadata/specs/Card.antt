-- The card that precedes a picture: scope (document 01), "Cards, rows, program", and refusals 1 to 4 of "What stops a call"; request 02, fields of 0;
-- request 06, depth and range; request 07, unconstrained before the mastering peak; request 12, refusal 17.
-- A list of bytes opens with the card, and other bytes may follow. Fields and peaks are in whole cd/m2, lengths in bytes.
use Rattle.std.specs.Prelude.{ℕ, ◌+◌, ◌*◌, ◌-◌, ◌/◌, ◌%◌, ◌^◌, Bool, cond, not, ◌||◌, ◌&&◌, List, length, get_or, drop, ltb, eqb, Result, Ok, Err}
use Rattle.quantity.specs.declared.sample_format.SampleFormat.{SampleFormat}
use Rattle.quantity.specs.declared.Source.{Source}
use Rattle.quantity.specs.SampleFormat.{format_of}
use Rattle.refusal.specs.declared.Refusal.{Refusal}
use Rattle.refusal.specs.declared.Refusal.TheVariants.{CardEmpty, UnknownBit, CardCut, FieldOutOfRange, NoPeak}
use Rattle.big_endian.specs.BigEndian.{number_at}

-- scope, Cards: bit i of the bit map, which is the first byte, as 0 or 1; bit 0 is the lowest
abbrev pub bit : ℕ → List ℕ → ℕ
bit i card = get_or card 0 0 / 2 ^ i % 2

-- scope, Cards: the bit is set
abbrev pub stands : ℕ → List ℕ → Bool
stands i card = eqb (bit i card) 1

-- scope, Cards: a field is a 16-bit number. This is the field that n others precede in the card.
abbrev pub field : ℕ → List ℕ → ℕ
field n card = number_at card (1 + 2 * n)

-- scope, Cards: the field of bit 0, which nothing precedes
abbrev pub max_cll : List ℕ → ℕ
max_cll card = field 0 card

-- scope, Cards: the field of bit 1 (SMPTE ST 2086), which MaxCLL precedes where bit 0 stands
abbrev pub mastering_peak : List ℕ → ℕ
mastering_peak card = field (bit 0 card) card

-- scope, Cards: how many bytes the card takes, with a field for each of bits 0 and 1 that stands
unfoldable pub card_bytes : List ℕ → ℕ
card_bytes card = 1 + 2 * (bit 0 card + bit 1 card)

-- scope, refusal 2, and request 06: a bit is set that has no meaning
unfoldable pub unknown_bit : List ℕ → Bool
unknown_bit card = stands 5 card || stands 6 card || stands 7 card

-- scope, refusal 3: bytes of the last field are missing
abbrev pub cut_short : List ℕ → Bool
cut_short card = ltb (length card) (card_bytes card)

-- scope, refusal 4, and request 02: a value above 10,000
unfoldable pub out_of_range : ℕ → Bool
out_of_range value = ltb 10000 value

-- scope, refusal 4: one of the fields that stand is out of range, whichever of them gives the peak
unfoldable pub field_out_of_range : List ℕ → Bool
field_out_of_range card =
    (stands 0 card && out_of_range (max_cll card)) || (stands 1 card && out_of_range (mastering_peak card))

-- request 02: a field is known where its bit stands and its value is not 0, which encoders write for what they did not measure
unfoldable pub known : Bool → ℕ → Bool
known standing value = standing && not (eqb value 0)

-- request 12, refusal 17: no field is known, and bit 2 does not stand
unfoldable pub names_no_peak : List ℕ → Bool
names_no_peak card =
    not (known (stands 0 card) (max_cll card)) && not (known (stands 1 card) (mastering_peak card)) && not (stands 2 card)

-- scope, Cards, in the order of request 07: the peak that a card names. MaxCLL where it is known, else 10,000 for an unconstrained title, else the mastering
-- peak where that is known; 0, which as in a field is no peak, of a card that names none.
unfoldable pub peak : List ℕ → ℕ
peak card =
    cond (known (stands 0 card) (max_cll card)) (max_cll card)
    (cond (stands 2 card) 10000
    (cond (known (stands 1 card) (mastering_peak card)) (mastering_peak card)
    0))

-- request 06: bits 3 and 4 of the bit map mean twelve bits and full range, and neither has a field
unfoldable pub format : List ℕ → SampleFormat
format card = format_of (get_or card 0 0)

-- what a card that nothing refuses declares of its picture
abbrev pub declared : List ℕ → Source
declared card = record { peak = peak card; format = format card }

-- scope, What stops a call, and request 12: the first of refusals 1 to 4 and 17 that the card meets, else what it declares
unfoldable pub card_answer : List ℕ → Result Source Refusal
card_answer card =
    cond (eqb (length card) 0) (Err CardEmpty)
    (cond (unknown_bit card) (Err UnknownBit)
    (cond (cut_short card) (Err CardCut)
    (cond (field_out_of_range card) (Err FieldOutOfRange)
    (cond (names_no_peak card) (Err NoPeak)
    (Ok (declared card))))))

-- scope, Cards, and request 12: what follows a card begins after the card's bytes, also where it names no peak; of a card that 1 to 4 refuse it is the
-- empty end
abbrev pub end_after : Result Source Refusal → List ℕ → ℕ
end_after (Ok source) card = card_bytes card
end_after (Err NoPeak) card = card_bytes card
end_after (Err _) card = length card

-- scope, Cards: the part of the bytes that follows the card
unfoldable pub following : List ℕ → List ℕ
following card = drop (end_after (card_answer card) card) card

-- how many bytes a card still wants: its bit map, then those of its fields that are missing; none where its bit map is refused
unfoldable pub card_wants : List ℕ → ℕ
card_wants card = cond (eqb (length card) 0) 1 (cond (unknown_bit card) 0 (card_bytes card - length card))
