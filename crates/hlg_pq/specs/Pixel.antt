-- The pixel call of the return path (request 08): what it refuses, and its answer. Samples are HLG code values of ten bits and narrow range.
use Rattle.std.specs.Prelude.{Bool, cond, ℕ, Result, Ok, Err}
use Rattle.quantity.specs.declared.Rgb.{Rgb}
use Rattle.quantity.specs.Component.{red, green, blue, Pixel}
use Rattle.refusal.specs.declared.Refusal.{Refusal}
use Rattle.refusal.specs.declared.Refusal.TheVariants.{Sample}
use Rattle.rows.specs.Row.{rgb}
use Rattle.rows.specs.Answer.{outside}
use Rattle.return_pixel.specs.Conversion.{pq_codes}

-- refusal 9: a sample below 4 or above 1,019
abbrev pub hlg_refused : ℕ → Bool
hlg_refused = outside 4 1019

-- what the call answers: the refusal, whose place is that of the first refused sample counted from red, or the three PQ codes
unfoldable pub pixel_answer : Pixel → Result (Rgb ℕ) Refusal
pixel_answer p =
    cond (hlg_refused (p red)) (Err (Sample 0))
    (cond (hlg_refused (p green)) (Err (Sample 1))
    (cond (hlg_refused (p blue)) (Err (Sample 2)) (Ok (rgb (pq_codes p)))))
