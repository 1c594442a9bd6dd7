-- What a call on a span of a row answers (scope, What stops a call, 6 to 9; Cards, rows, program: a host in C), for any test of a sample and any
-- conversion of a pixel. Lengths are in bytes; samples and pixels are counted from 0 at the row's start.
use Rattle.std.specs.Prelude.{ℕ, zero, suc, ◌+◌, ◌-◌, ◌*◌, ◌/◌, ◌%◌, Bool, cond, not, ◌||◌, List, length, ◌==◌, nat_lt, Option, Some, None}
use Rattle.std.specs.Prelude.{Result, Ok, Err}
use Rattle.quantity.specs.Component.{red, green, blue, Pixel}
use Rattle.refusal.specs.declared.Refusal.{Refusal}
use Rattle.refusal.specs.declared.Refusal.TheVariants.{RowLength, DestinationLength, Span, Sample}
use Rattle.refusal.specs.Number.{number, place}
use Rattle.rows.specs.Row.{sample_at, with_pixels, converted}

-- the test of a sample by a range: below its least code or above its most
unfoldable pub outside : ℕ → ℕ → ℕ → Bool
outside least most d = nat_lt d least || nat_lt most d

-- the first of the n places from i on that a test refuses; where none is, the place after them
unfoldable pub first_of : (ℕ → Bool) → ℕ → ℕ → ℕ
first_of refused i zero = i
first_of refused i (suc n) = cond (refused i) i (first_of refused (i + 1) n)

-- the first of the n samples of a row from i on
abbrev pub first_refused : (ℕ → Bool) → List ℕ → ℕ → ℕ → ℕ
first_refused refused row = first_of (λ i. refused (sample_at row i))

-- a place that is found before an end; at the end or past it there is none
abbrev pub before : ℕ → ℕ → Option ℕ
before end i = cond (nat_lt i end) (Some i) None

-- so many to a pixel: a count that is no multiple of it, or more than 8,192 pixels have
unfoldable pub count_refused : ℕ → ℕ → Bool
count_refused to_a_pixel count = not (count % to_a_pixel == 0) || nat_lt (8192 * to_a_pixel) count

-- refusal 6: a row's bytes, six to a pixel
abbrev pub length_refused : ℕ → Bool
length_refused = count_refused 6

-- refusal 7: a destination of another length than the row
unfoldable pub destination_refused : ℕ → ℕ → Bool
destination_refused bytes of_row = not (bytes == of_row)

-- refusal 8: a first pixel beyond the end, or an end beyond the pixels
unfoldable pub span_refused : ℕ → ℕ → ℕ → Bool
span_refused pixels first end = nat_lt end first || nat_lt pixels end

-- 6 to 9 in order, for the pixels first to end − 1 of a row and a destination of so many bytes. The place is 0 except for 9
unfoldable pub span_answer : (ℕ → Bool) → List ℕ → ℕ → ℕ → ℕ → Result (Unit {0}) Refusal
span_answer refused row bytes first end =
    let i = first_refused refused row (3 * first) (3 * (end - first)) in
    cond (length_refused (length row)) (Err RowLength)
    (cond (destination_refused bytes (length row)) (Err DestinationLength)
    (cond (span_refused (length row / 6) first end) (Err Span)
    (cond (nat_lt i (3 * end)) (Err (Sample i)) (Ok tt))))

-- 9 of a pixel: the place is that of the first refused sample counted from red
abbrev pub samples_answer : (ℕ → Bool) → Pixel → Result (Unit {0}) Refusal
samples_answer refused p =
    cond (refused (p red)) (Err (Sample 0))
    (cond (refused (p green)) (Err (Sample 1))
    (cond (refused (p blue)) (Err (Sample 2)) (Ok tt)))

-- what a destination holds after the answer: the pixels of the span in their places, p giving each by its number, or all as it was
abbrev pub pixels_after : Result (Unit {0}) Refusal → (ℕ → Pixel) → List ℕ → ℕ → ℕ → List ℕ
pixels_after (Ok done) p dst first end = with_pixels p dst first end
pixels_after (Err refusal) p dst first end = dst

-- and these are a row's, converted by f
abbrev pub bytes_after : Result (Unit {0}) Refusal → (Pixel → Pixel) → List ℕ → List ℕ → ℕ → ℕ → List ℕ
bytes_after answer f row = pixels_after answer (converted f row)

-- the one number that a host in C gets: 0, or the refusal plus 256 times its place
abbrev pub host_number : Result (Unit {0}) Refusal → ℕ
host_number (Ok done) = 0
host_number (Err refusal) = number refusal + 256 * place refusal
