-- The pixel calls (scope, What stops a call; request 04: Y'CbCr; request 06: depth and range): what they refuse, and their answers. What is declared of
-- the source is its peak, in whole cd/m2, and how its samples are coded. The call on PQ codes tests refusal 5, then 9; the one on RGB codes 14.
use Rattle.std.specs.Prelude.{Bool, cond, ◌||◌, ℕ, eqb, ltb, Result, Ok, Err}
use Rattle.quantity.specs.declared.Rgb.{Rgb}
use Rattle.quantity.specs.declared.sample_format.SampleFormat.{SampleFormat}
use Rattle.quantity.specs.declared.Source.{Source}
use Rattle.quantity.specs.SampleFormat.{least_taken, most_taken}
use Rattle.quantity.specs.Component.{red, green, blue, Pixel}
use Rattle.pixel.specs.Conversion.{code}
use Rattle.distance.specs.Demand.{Voted}
use Rattle.refusal.specs.declared.Refusal.{Refusal}
use Rattle.refusal.specs.declared.Refusal.TheVariants.{Peak, Sample, Code}
use Rattle.rows.specs.Row.{rgb}
use Rattle.rows.specs.Answer.{outside}
use Rattle.ycbcr.specs.YCbCr.{luma, cb, cr}

-- refusal 5: a peak of 0 or above 10,000
unfoldable pub peak_refused : ℕ → Bool
peak_refused peak = eqb peak 0 || ltb 10000 peak

abbrev pub peak_answer : ℕ → Result (Unit {0}) Refusal
peak_answer peak = cond (peak_refused peak) (Err Peak) (Ok tt)

-- refusal 9: a sample out of the range in use
abbrev pub sample_refused : SampleFormat → ℕ → Bool
sample_refused f = outside (least_taken f) (most_taken f)

-- what the call answers: a refusal with its place, which is that of the first refused sample counted from red, or the three HLG codes
unfoldable pub pixel_answer : Source → Pixel → Result (Rgb ℕ) Refusal
pixel_answer source p =
    cond (peak_refused source.peak) (Err Peak)
    (cond (sample_refused source.format (p red)) (Err (Sample 0))
    (cond (sample_refused source.format (p green)) (Err (Sample 1))
    (cond (sample_refused source.format (p blue)) (Err (Sample 2)) (Ok (rgb (code source p))))))

-- refusal 14: an RGB code below 64 or above 1,019
abbrev pub code_refused : ℕ → Bool
code_refused = outside 64 1019

-- what the call on RGB codes answers: the refusal, whose place is 0 whichever code it is, or luma, Cb, Cr
unfoldable pub ycbcr_answer : Pixel → Result (Rgb ℕ) Refusal
ycbcr_answer p =
    cond (code_refused (p red) || code_refused (p green) || code_refused (p blue)) (Err Code)
    (Ok (record { red = luma p; green = cb p; blue = cr p }))

-- demand 3 of the pixel, where the call gives codes
unfoldable pub VotedWhere : Result (Rgb ℕ) Refusal → Source → Pixel → Type 0
VotedWhere (Ok codes) source p = Voted source p
VotedWhere (Err refusal) source p = Unit {0}
