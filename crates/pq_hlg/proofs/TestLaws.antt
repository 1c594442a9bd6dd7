-- What a passed test says, of a peak, of an RGB code and of the row call's answer, and the destination after each answer.
use Rattle.std.proofs.Common.{◌≡◌, ℕ, ◌-◌, ◌*◌, ◌≤◌, Bool, true, false, cond, eqb, ltb}
use Rattle.std.proofs.Common.{List, ◌++◌, length, take, drop, sym, arith, ltb-false, refl, Result, Ok, Err}
use borrow.Author.Tests.{eqb-false}
use Rattle.quantity.specs.declared.Source.{Source}
use Rattle.quantity.specs.declared.Rgb.{Rgb}
use Rattle.quantity.specs.Component.{red, green, blue, Pixel}
use Rattle.eetf.specs.Curve.{peak_read}
use Rattle.refusal.specs.declared.Refusal.{Refusal}
use Rattle.refusal.specs.declared.Refusal.TheVariants.{Peak}
use Rattle.rows.specs.Row.{rgb, converted_into}
use Rattle.rows.specs.Answer.{outside, bytes_after, host_number}
use Rattle.rows.proofs.AnswerLaws.{neither, either, refused_not_converted, Accepted, accepted, host_number_fits, converted_after}
use Rattle.span.specs.Span.{source_read, hlg_read}
use Rattle.pq_hlg.specs.Pixel.{peak_refused, peak_answer, sample_refused, code_refused}
use Rattle.pq_hlg.specs.Row.{row_answer}

pub peak_taken : (peak : ℕ) → peak_refused peak ≡ false → (1 ≤ peak) × (peak ≤ 10000)
unfolding peak_refused
peak_taken peak e =
    let t = neither (eqb peak 0) (ltb 10000 peak) e in
    (above_zero peak (eqb-false peak 0 t.0), ltb-false 10000 peak t.1)
  where
    above_zero : (n : ℕ) → (n ≡ 0 → ⊥) → 1 ≤ n
    above_zero n h = omega arith

pub peak_passed : (peak : ℕ) → peak_answer peak ≡ Ok tt → peak_refused peak ≡ false
peak_passed peak = go (peak_refused peak)
  where
    go : (b : Bool) → ◌≡◌ {A = Result (Unit {0}) Refusal} (cond b (Err Peak) (Ok tt)) (Ok tt) → b ≡ false
    go true e = refused_not_converted e
    go false e = refl

-- three tests that are passed, in an answer and before what is answered then
pub three_passed : {X : Type 0} (a b c : Bool) (r g l : Refusal) (x : Result X Refusal)
    → ◌≡◌ {A = Result (Unit {0}) Refusal} (Ok tt) (cond a (Err r) (cond b (Err g) (cond c (Err l) (Ok tt))))
    → cond a (Err r) (cond b (Err g) (cond c (Err l) x)) ≡ x
three_passed true b c r g l x e = refused_not_converted (sym e)
three_passed false true c r g l x e = refused_not_converted (sym e)
three_passed false false true r g l x e = refused_not_converted (sym e)
three_passed false false false r g l x e = refl

-- the numbers of a pixel by its components
pub rgb_is : (x : Rgb ℕ) (p : Pixel) → x.red ≡ p red → x.green ≡ p green → x.blue ≡ p blue → x ≡ rgb p
rgb_is x p r g b = simp (sym r, sym g, sym b)

-- a source whose peak is taken is read as it is
pub source_read_lem : (source : Source) → peak_refused source.peak ≡ false → source_read source ≡ source
source_read_lem source e =
    let t = peak_taken source.peak e in
    let same : peak_read source.peak ≡ source.peak = omega arith in
    rw same

-- an RGB code that is taken is read as it is
pub code_read_lem : (d : ℕ) → code_refused d ≡ false → hlg_read d ≡ d
unfolding outside
code_read_lem d e =
    let t = neither (ltb d 64) (ltb 1019 d) e in
    let least = ltb-false d 64 t.0 in
    let most = ltb-false 1019 d t.1 in
    omega arith

module _ (source : Source) (row : List ℕ) (bytes first end : ℕ) where
  -- what a row call has tested where it converts
  pub row_accepted : row_answer source row bytes first end ≡ Ok tt → (peak_refused source.peak ≡ false) × Accepted row bytes first end
  unfolding row_answer
  row_accepted =
      let P : Result (Unit {0}) Refusal → Type 0 = λ a. a ≡ Ok tt → (peak_refused source.peak ≡ false) × Accepted row bytes first end in
      either P (peak_refused source.peak) _ _ (λ _. refused_not_converted) (λ p h. (p, accepted (sample_refused source.format) row bytes first end h))

  pub row_number_fits : host_number (row_answer source row bytes first end) ≤ 6291456
  unfolding row_answer
  row_number_fits =
      either (λ a. host_number a ≤ 6291456) (peak_refused source.peak) _ _ (λ _. omega arith)
      (λ _. host_number_fits (sample_refused source.format) row bytes first end)

-- the destination of a call that converts, by any conversion of a source
module _ (f : Source → Pixel → Pixel) (source : Source) (row dst : List ℕ) (first end : ℕ) where
  pub row_converted : (ys : List ℕ) (to : ℕ) → row_answer source row (length dst) first end ≡ Ok tt
      → ys ≡ converted_into (f (source_read source)) (take (length row - 6 * first) (drop (6 * first) row)) (take (to - 6 * first) (drop (6 * first) dst))
      → to ≡ 6 * end
      → take (6 * first) dst ++ (ys ++ drop (to - 6 * first) (drop (6 * first) dst))
      ≡ bytes_after (row_answer source row (length dst) first end) (f source) row dst first end
  row_converted ys to e y at_end =
      let tested = row_accepted source row (length dst) first end e in
      converted_after (f source) row dst first end ys to e tested.1 at_end (rw (source_read_lem source tested.0) at y)
