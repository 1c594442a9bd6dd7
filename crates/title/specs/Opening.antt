-- How a title opens: scope (document 01), "Cards, rows, program", and refusals 1 to 4 and 10 of "What stops a call"; request 12, refusal 17.
-- A list of bytes is a title's from its first on; a width is in pixels.
use Rattle.std.specs.Prelude.{ℕ, ◌-◌, Bool, cond, ◌||◌, List, length, drop, ltb, eqb, Result, Ok, Err}
use Rattle.quantity.specs.declared.Source.{Source}
use Rattle.refusal.specs.declared.Refusal.{Refusal}
use Rattle.refusal.specs.declared.Refusal.TheVariants.{Width}
use Rattle.big_endian.specs.BigEndian.{number_at}
use Rattle.metadata.specs.Card.{card_answer, following, card_wants}
use Rattle.title.specs.declared.opening.Layout.{Layout}

-- scope, program: the width, in the first two bytes
abbrev pub width : List ℕ → ℕ
width bytes = number_at bytes 0

-- scope, refusal 10
unfoldable pub width_refused : List ℕ → Bool
width_refused bytes = ltb (length bytes) 2 || eqb (width bytes) 0 || ltb 8192 (width bytes)

-- what the bytes after an accepted card answer
unfoldable pub width_answer : Source → List ℕ → Result Layout Refusal
width_answer source bytes = cond (width_refused bytes) (Err Width) (Ok (record { source = source; width = width bytes }))

abbrev pub answer_after : Result Source Refusal → List ℕ → Result Layout Refusal
answer_after (Ok source) bytes = width_answer source bytes
answer_after (Err refusal) bytes = Err refusal

-- scope, What stops a call: what a title declares of its rows, or its first refusal, the card's and then the width's
unfoldable pub opening_answer : List ℕ → Result Layout Refusal
opening_answer title = answer_after (card_answer title) (following title)

-- scope, program: what comes after card and width
unfoldable pub rows_of : List ℕ → List ℕ
rows_of title = drop 2 (following title)

abbrev pub asked_after : Result Source Refusal → List ℕ → ℕ
asked_after (Ok source) opening = 2 - length (following opening)
asked_after (Err refusal) opening = card_wants opening

-- how many bytes an opening asks for next, of which these came: first those of the card, then those of the width; none where it is refused
unfoldable pub bytes_asked : List ℕ → ℕ
bytes_asked opening = asked_after (card_answer opening) opening
