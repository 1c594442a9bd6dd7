-- A measured peak: the least whole number of cd/m2 that no pixel of the accepted rows exceeds. Under it, from 1 up, the row call converts each of these
-- rows, and no pixel is cut at the peak's position.
use mathlib.Core.Path.{◌≡◌, refl, sym, ap, subst, ◌∙◌}
use mathlib.Core.Bool.{false}
use mathlib.Core.List.{List, [], ◌∷◌}
use Prim.Native.Nat.{ℕ, zero, suc, ◌*◌, ◌-◌, ◌/◌, ◌≤◌, ◌<◌}
use native.Mathlib.Nat.{le_trans}
use native.Mathlib.Omega.{arith}
use lib.ListN.{length}
use Rattle.std.specs.Prelude.{Ok}
use borrow.Author.Tests.{eq-eqb, ne_eqb, le-ltb}
use Rattle.quantity.specs.Units.{units, ten_thousand}
use Rattle.quantity.specs.declared.sample_format.SampleFormat.{SampleFormat}
use Rattle.quantity.specs.SampleFormat.{black}
use Rattle.quantity.specs.Component.{Pixel, brightest}
use Rattle.position.specs.Position.{position_of}
use Rattle.position.specs.Code.{above_black}
use Rattle.position.proofs.PositionLaws.{position_is}
use Rattle.position.proofs.CodeLaws.{black_light}
use Rattle.pixel.specs.Conversion.{brightest_light, brightest_position}
use Rattle.pixel.proofs.PixelLaws.{light_of_brightest, brightest_lit, brightest_light_at_most, brightest_position_range}
use Rattle.rows.specs.Row.{pixel_at}
use Rattle.rows.specs.Answer.{first_refused, length_refused, destination_refused, span_refused, span_answer}
use Rattle.rows.proofs.AnswerLaws.{length_taken}
use Rattle.pq_hlg.specs.Pixel.{peak_refused, sample_refused}
use Rattle.pq_hlg.specs.Row.{row_answer}
use Rattle.content_light.specs.declared.Peak.{Peak}
use Rattle.content_light.specs.Peak.{CodedRow, pixels_of, Test, accepted, refused, row_test}
use Rattle.content_light.specs.Peak.{counted, kept, accepted_rows, light_of, Brightest, none, found, brightest_pixel}
use Rattle.content_light.specs.Peak.{rounded_up, peak_at, peak_of, measured}
use Rattle.content_light.proofs.RangeLaws.{taken}
use Rattle.content_light.proofs.BrightestLaws.{row_at, Located, BrightestAt, brightest_found}

-- ---- rounding up: enough, and no more than enough
pub enough : (light : ℕ) → light ≤ rounded_up light * units
unfolding rounded_up units
enough light = omega arith

pub no_more : (light peak : ℕ) → light ≤ peak * units → rounded_up light ≤ peak
unfolding rounded_up units
no_more light peak h = omega arith

-- a pixel whose light is at most l has its position at most at that of l
lit_position : (f : SampleFormat) (p : Pixel) (l : ℕ) → brightest_light f p ≤ l → brightest_position f p ≤ position_of l
unfolding brightest_light
lit_position f p l h =
    (position_is l).largest (brightest_position f p) (brightest_position_range f p) (subst (λ (x : ℕ). x ≤ l) (brightest_lit f p) h)

-- ---- accepted rows have passed their tests
abbrev pub Passed : CodedRow → Type 0
Passed r =
    (length_refused (length r.bytes) ≡ false) ×
    (length r.bytes / 2 ≤ first_refused (sample_refused r.format) r.bytes 0 (length r.bytes / 2))

pub accepted_passed : (n : ℕ) (rows : List CodedRow) (k : ℕ) → k < length (accepted_rows n rows)
    → Passed (row_at (accepted_rows n rows) k)
unfolding accepted_rows
accepted_passed n [] k h = absurd (omega arith)
accepted_passed n (row ∷ later) k h = go (row_test n row) refl k h (λ m. accepted_passed m later)
  where
    go : (t : Test) → row_test n row ≡ t → (i : ℕ) → i < length (kept t row (accepted_rows (counted t n) later))
        → ((m j : ℕ) → j < length (accepted_rows m later) → Passed (row_at (accepted_rows m later) j))
        → Passed (row_at (kept t row (accepted_rows (counted t n) later)) i)
    go accepted e zero l again = let t = taken n row e in (t.length_passed, t.samples_passed)
    go accepted e (suc i) l again = again (suc n) i (omega arith)
    go (refused refusal) e i l again = again n i l

-- ---- the row call converts such a row whole, under the peak and in the row's own format
abbrev pub ConvertsWhole : ℕ → CodedRow → Type 0
ConvertsWhole peak row =
    row_answer (record { peak = peak; format = row.format }) row.bytes (length row.bytes) 0 (pixels_of row) ≡ Ok tt

pub whole_row_converts : (peak : ℕ) (coded : CodedRow) → 1 ≤ peak → peak ≤ 10000 → Passed coded → ConvertsWhole peak coded
unfolding row_answer peak_refused span_answer destination_refused span_refused
whole_row_converts peak coded p q passed =
    let row = coded.bytes in
    let l = passed.0 in
    let sixes = length_taken (length row) l in
    let pixels = length row / 6 in
    let some = ne_eqb peak 0 (omega arith) in
    let most = le-ltb 10000 peak q in
    let same = eq-eqb (length row) (length row) refl in
    let first = le-ltb pixels 0 (omega arith) in
    let end = le-ltb pixels pixels (omega arith) in
    let all : 3 * (pixels - 0) ≡ length row / 2 = omega (arith, sixes.0) in
    let samples : 3 * pixels ≡ length row / 2 = omega (arith, sixes.0) in
    simp (some, most, l, same, first, end, all, samples, le-ltb _ (length row / 2) passed.1)

-- ---- the peak that a title measures
-- what a row's pixels are under a peak
pub record Under (peak : ℕ) (row : CodedRow) : Type 0 where
  pub converts : ConvertsWhole peak row
  pub light : (j : ℕ) → j < pixels_of row → light_of row j ≤ peak * units
  pub position : (j : ℕ) → j < pixels_of row → brightest_position row.format (pixel_at row.bytes j) ≤ position_of (peak * units)

module _ (rows : List CodedRow) {peak row pixel : ℕ} (m : measured rows ≡ Ok (peak_at peak row pixel)) where
  -- its light is that of a brightest pixel
  abbrev FoundLight : Type 0
  FoundLight = (light : ℕ) × (peak ≡ rounded_up light) × BrightestAt (accepted_rows 0 rows) light row pixel

  found_light : FoundLight
  unfolding measured peak_of
  found_light = go (brightest_pixel (accepted_rows 0 rows)) refl
    where
      go : (b : Brightest) → brightest_pixel (accepted_rows 0 rows) ≡ b → FoundLight
      go none e = let h = simp e at m in let z : ◌≡◌ {A = ℕ} 0 1 = cc in absurd (omega arith)
      go (found light r j) e =
          let h = simp e at m in
          let same : peak_at (rounded_up light) r j ≡ peak_at peak row pixel = cc in
          let same_row : r ≡ row = ap (λ (x : Peak). x.row) same in
          let same_pixel : j ≡ pixel = ap (λ (x : Peak). x.pixel) same in
          (light, ap (λ (x : Peak). x.cd) (sym same), brightest_found (accepted_rows 0 rows) (e ∙ rw (same_row, same_pixel)))

  -- no pixel of an accepted row has more light,
  pub peak_enough : (i j : ℕ) → Located (accepted_rows 0 rows) i j → light_of (row_at (accepted_rows 0 rows) i) j ≤ peak * units
  peak_enough i j at =
      let f = found_light in
      le_trans (f.2.most i j at) (subst (λ (p : ℕ). f.0 ≤ p * units) (sym f.1) (enough f.0))

  -- a lower peak would not do,
  pub peak_least : (lower : ℕ) → ((i j : ℕ) → Located (accepted_rows 0 rows) i j → light_of (row_at (accepted_rows 0 rows) i) j ≤ lower * units) → peak ≤ lower
  peak_least lower h =
      let f = found_light in
      subst (λ (p : ℕ). p ≤ lower) (sym f.1) (no_more f.0 lower (subst (λ (l : ℕ). l ≤ lower * units) f.2.has (h row pixel f.2.there)))

  -- no title measures more than 10,000 cd/m2,
  pub peak_at_most : peak ≤ 10000
  unfolding ten_thousand
  peak_at_most =
      peak_least 10000 (λ i j at. let r = row_at (accepted_rows 0 rows) i in brightest_light_at_most r.format (pixel_at r.bytes j))

  -- and a black one, all of whose codes are read as black, measures 0.
  pub black_measures_none : ((i j : ℕ) → Located (accepted_rows 0 rows) i j
      → let r = row_at (accepted_rows 0 rows) i in brightest (pixel_at r.bytes j) ≤ black r.format) → peak ≡ 0
  black_measures_none h =
      let none_above = peak_least 0 (λ i j at.
      let r = row_at (accepted_rows 0 rows) i in
      let p = pixel_at r.bytes j in
      let dark : above_black r.format (brightest p) ≡ 0 = omega (arith, h i j at) in
      omega (arith, light_of_brightest r.format p, black_light r.format (brightest p) dark)) in
      omega arith

  -- With a peak from 1 up the row call converts every accepted row whole, and the curve cuts no pixel of it.
  pub never_above : 1 ≤ peak → (i : ℕ) → i < length (accepted_rows 0 rows) → Under peak (row_at (accepted_rows 0 rows) i)
  never_above some i h =
      let passed = accepted_passed 0 rows i h in
      let r = row_at (accepted_rows 0 rows) i in
      record {
        converts = whole_row_converts peak r some peak_at_most passed;
        light = λ j k. peak_enough i j (h, k);
        position = λ j k. lit_position r.format (pixel_at r.bytes j) (peak * units) (peak_enough i j (h, k));
      }
