-- The row call of captions and its C host (request 13): what it refuses, its answer and the destination. A row is a list of bytes, three sRGB values to a
-- pixel, a destination one of bytes, two to each; pixels are counted from 0 at the row's start.
use Rattle.std.specs.Prelude.{ℕ, List, length, Result}
use Rattle.quantity.specs.Component.{Pixel, pixel}
use Rattle.refusal.specs.declared.Refusal.{Refusal}
use Rattle.refusal.specs.declared.Refusal.TheVariants.{ElementCount}
use Rattle.rows.specs.Answer.{pixels_after}
use Rattle.rows.specs.Element.{converted_elements, elements_answer}
use Rattle.srgb.specs.Conversion.{caption_codes}

-- what the call answers for the pixels first to end − 1 of a row and a destination of so many bytes: 18 (bytes that are no multiple of 3, or more than 8,192
-- pixels have), 7 and 8
abbrev pub row_answer : List ℕ → ℕ → ℕ → ℕ → Result (Unit {0}) Refusal
row_answer row = elements_answer ElementCount (length row)

-- the pixels of a row, converted
abbrev pub captions : List ℕ → ℕ → Pixel
captions = converted_elements pixel 0 caption_codes

-- the destination afterwards: the HLG codes of the span in its places, or all as it was
abbrev pub destination_after : List ℕ → List ℕ → ℕ → ℕ → List ℕ
destination_after row dst first end = pixels_after (row_answer row (length dst) first end) (captions row) dst first end
