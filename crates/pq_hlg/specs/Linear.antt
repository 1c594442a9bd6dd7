-- The calls on linear pixels and rows and their C host (request 11): what they refuse, their answers and the destination. A pixel is three values in
-- cd/m2; a row is a list of them, a destination a list of bytes, pixels counted from 0 at the row's start. The peak is in whole cd/m2; a title's depth and
-- range say nothing of floats.
use Rattle.std.specs.Prelude.{cond, not, List, ℕ, Float, length, Result, Ok, Err}
use Rattle.quantity.specs.declared.Rgb.{Rgb}
use Rattle.quantity.specs.Component.{red, green, blue}
use Rattle.refusal.specs.declared.Refusal.{Refusal}
use Rattle.refusal.specs.declared.Refusal.TheVariants.{Peak, NotFinite}
use Rattle.rows.specs.Row.{rgb}
use Rattle.rows.specs.Answer.{pixels_after}
use Rattle.linear_light.specs.LinearLight.{finite}
use Rattle.linear_light.specs.Conversion.{Values, linear_code}
use Rattle.linear_light.specs.Row.{converted_from, linear_span_answer}
use Rattle.linear_distance.specs.Demand.{VotedLinear}
use Rattle.pq_hlg.specs.Pixel.{peak_refused}

-- 16 of a pixel: the place is that of the first value that is infinite or no number, counted from red
abbrev pub values_answer : Values → Result (Unit {0}) Refusal
values_answer p =
    cond (not (finite (p red))) (Err (NotFinite 0))
    (cond (not (finite (p green))) (Err (NotFinite 1))
    (cond (not (finite (p blue))) (Err (NotFinite 2)) (Ok tt)))

-- the pixel call: 5, then 16, or the three HLG codes
unfoldable pub linear_pixel_answer : ℕ → Values → Result (Rgb ℕ) Refusal
linear_pixel_answer peak p =
    cond (peak_refused peak) (Err Peak)
    (cond (not (finite (p red))) (Err (NotFinite 0))
    (cond (not (finite (p green))) (Err (NotFinite 1))
    (cond (not (finite (p blue))) (Err (NotFinite 2)) (Ok (rgb (linear_code peak p))))))

-- what is promised of the pixel's distances, where the call gives codes
unfoldable pub VotedLinearWhere : Result (Rgb ℕ) Refusal → ℕ → Values → Type 0
VotedLinearWhere (Ok codes) peak p = VotedLinear peak p
VotedLinearWhere (Err refusal) peak p = Unit {0}

-- the row call, for the pixels first to end − 1 of a row and a destination of so many bytes: 5, then 15, 7, 8 and 16
unfoldable pub linear_row_answer : ℕ → List Float → ℕ → ℕ → ℕ → Result (Unit {0}) Refusal
linear_row_answer peak row bytes first end = cond (peak_refused peak) (Err Peak) (linear_span_answer row bytes first end)

-- the destination afterwards: the HLG codes of the span in their places, or all as it was
unfoldable pub linear_after : ℕ → List Float → List ℕ → ℕ → ℕ → List ℕ
linear_after peak row dst first end =
    pixels_after (linear_row_answer peak row (length dst) first end) (converted_from (linear_code peak) row) dst first end
