-- Rows of values in cd/m2 (request 11): pixels of three 32-bit floats, red, green, blue, and the tests of a call on a span, 15, 7, 8 and 16. A destination
-- is a list of bytes, two to a sample; values and pixels are counted from 0 at the row's start.
use Rattle.std.specs.Prelude.{ℕ, ◌-◌, ◌*◌, ◌/◌, Bool, cond, not, List, length, nat_lt, slice_index_or, Float, Result, Ok, Err}
use Rattle.std.specs.Float.{nan}
use Rattle.quantity.specs.Component.{Pixel}
use Rattle.refusal.specs.declared.Refusal.{Refusal}
use Rattle.refusal.specs.declared.Refusal.TheVariants.{ValueCount, DestinationLength, Span, NotFinite}
use Rattle.rows.specs.Answer.{first_of, destination_refused, span_refused}
use Rattle.rows.specs.Element.{elements_at, converted_elements, elements_into, elements_refused}
use Rattle.linear_light.specs.LinearLight.{finite}
use Rattle.linear_light.specs.Conversion.{Values, values}

-- value i of a row; there is none past its end
abbrev pub value_at : List Float → ℕ → Float
value_at row i = slice_index_or row i nan

-- pixel j of a row
abbrev pub linear_at : List Float → ℕ → Values
linear_at = elements_at values nan

-- the pixels of a row, converted by f
abbrev pub converted_from : (Values → Pixel) → List Float → ℕ → Pixel
converted_from = converted_elements values nan

-- a destination that was filled from src: as many whole pixels as both have, the other bytes as they were
abbrev pub linear_into : (Values → Pixel) → List Float → List ℕ → List ℕ
linear_into = elements_into values nan

-- refusal 15: values that are no multiple of 3, or more than 8,192 pixels have
abbrev pub values_refused : ℕ → Bool
values_refused = elements_refused

-- refusal 16: the first of the n values from i on that is infinite or no number; where none is, the value after them
abbrev pub first_not_finite : List Float → ℕ → ℕ → ℕ
first_not_finite row = first_of (λ i. not (finite (value_at row i)))

-- 15, 7, 8 and 16 in order, for the pixels first to end − 1 of a row and a destination of so many bytes. The place is 0 except for 16
unfoldable pub linear_span_answer : List Float → ℕ → ℕ → ℕ → Result (Unit {0}) Refusal
linear_span_answer row bytes first end =
    let i = first_not_finite row (3 * first) (3 * (end - first)) in
    cond (values_refused (length row)) (Err ValueCount)
    (cond (destination_refused bytes (2 * length row)) (Err DestinationLength)
    (cond (span_refused (length row / 3) first end) (Err Span)
    (cond (nat_lt i (3 * end)) (Err (NotFinite i)) (Ok tt))))
