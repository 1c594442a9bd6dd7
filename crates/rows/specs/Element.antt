-- Rows whose samples each come from one element of a list, three to a pixel, whatever the elements are (bytes in request 13): the pixels of such a row, its
-- destination of two bytes to an element, and the tests of a span that look at no element. Elements and pixels are counted from 0 at the row's start.
use Rattle.std.specs.Prelude.{ℕ, ◌+◌, ◌*◌, ◌/◌, min, Bool, cond, List, length, slice_index_or, Result, Ok, Err}
use Rattle.quantity.specs.Component.{Pixel}
use Rattle.refusal.specs.declared.Refusal.{Refusal}
use Rattle.refusal.specs.declared.Refusal.TheVariants.{DestinationLength, Span}
use Rattle.rows.specs.Row.{with_pixels}
use Rattle.rows.specs.Answer.{count_refused, destination_refused, span_refused}

-- `three` makes a pixel of red, green and blue; `none` stands for an element past the row's end
module _ {A P : Type 0} (three : A → A → A → P) (none : A) where
  -- pixel j of a row
  abbrev pub elements_at : List A → ℕ → P
  elements_at row j = three (slice_index_or row (3 * j) none) (slice_index_or row (3 * j + 1) none) (slice_index_or row (3 * j + 2) none)

  -- the pixels of a row, converted by f
  abbrev pub converted_elements : (P → Pixel) → List A → ℕ → Pixel
  converted_elements f row j = f (elements_at row j)

  -- a destination that was filled from src: as many whole pixels as both have, the other bytes as they were
  abbrev pub elements_into : (P → Pixel) → List A → List ℕ → List ℕ
  elements_into f src dst = with_pixels (converted_elements f src) dst 0 (min (2 * length src) (length dst) / 6)

-- so many elements, three to a pixel, are refused
abbrev pub elements_refused : ℕ → Bool
elements_refused = count_refused 3

-- the tests in order, for the pixels first to end − 1 of a row of n elements and a destination of so many bytes: that of the elements, which has a refusal
-- of its own in each call, 7, which wants two bytes to an element, and 8. The place is 0
unfoldable pub elements_answer : Refusal → ℕ → ℕ → ℕ → ℕ → Result (Unit {0}) Refusal
elements_answer refusal n bytes first end =
    cond (elements_refused n) (Err refusal)
    (cond (destination_refused bytes (2 * n)) (Err DestinationLength)
    (cond (span_refused (n / 3) first end) (Err Span) (Ok tt)))

-- what is answered where further tests follow
abbrev pub and_then : Result (Unit {0}) Refusal → Result (Unit {0}) Refusal → Result (Unit {0}) Refusal
and_then (Ok done) further = further
and_then (Err refusal) further = Err refusal
