-- Laws of rows whose samples each come from one element, whatever the elements are: what passed tests say, that the pixels of a part of a row are the row's,
-- and the destination after a call that converts.
use Rattle.std.proofs.Common.{◌≡◌, ℕ, ◌+◌, ◌-◌, ◌*◌, ◌/◌, ◌%◌, ◌<◌, ◌≤◌, Bool, true, false, cond, List, ◌++◌, length, get_or, take, drop, sym, refl, ap}
use Rattle.std.proofs.Common.{◌∙◌, arith, length-drop, length-take, get_or-drop, get_or-take, Result, Ok, Err}
use Rattle.quantity.specs.Component.{Pixel}
use Rattle.refusal.specs.declared.Refusal.{Refusal}
use Rattle.refusal.specs.declared.Refusal.TheVariants.{DestinationLength, Span}
use Rattle.rows.specs.Row.{pixels_bytes}
use Rattle.rows.specs.Answer.{destination_refused, span_refused, pixels_after, host_number}
use Rattle.rows.specs.Element.{elements_at, converted_elements, elements_into, elements_refused, elements_answer, and_then}
use Rattle.rows.proofs.RowLaws.{pixels_same}
use Rattle.rows.proofs.SpanLaws.{filled}
use Rattle.rows.proofs.AnswerLaws.{count_taken, either, refused_not_converted, destination_taken, span_taken, pixels_after_lem}

pub elements_taken : (n : ℕ) → elements_refused n ≡ false → (n % 3 ≡ 0) × (n ≤ 24576)
elements_taken = count_taken 3

-- further tests leave a refusal
pub refused_then : (a further : Result (Unit {0}) Refusal) {refusal : Refusal} → a ≡ Err refusal → a ≡ and_then a further
refused_then a further e = e ∙ sym (ap (λ (x : Result (Unit {0}) Refusal). and_then x further) e)

-- what has been tested where the tests pass
pub record AcceptedElements (n bytes first end : ℕ) : Type 0 where
  pub longest : n ≤ 24576
  pub same : bytes ≡ 2 * n
  pub ordered : first ≤ end
  pub within : 3 * end ≤ n

module _ (refusal : Refusal) (n bytes first end : ℕ) where
  -- what holds of each refusal, and of an answer that passed the tests, holds of the answer
  by_tests : (P : Result (Unit {0}) Refusal → Type 0) → P (Err refusal) → P (Err DestinationLength) → P (Err Span)
      → (AcceptedElements n bytes first end → P (Ok tt))
      → P (elements_answer refusal n bytes first end)
  unfolding elements_answer
  by_tests P of_elements of_destination of_span passed =
      either P (elements_refused n) _ _ (λ _. of_elements) (λ a.
      either P (destination_refused bytes (2 * n)) _ _ (λ _. of_destination) (λ b.
      either P (span_refused (n / 3) first end) _ _ (λ _. of_span) (λ c.
      let s = span_taken (n / 3) first end c in
      passed (record {
        longest = (elements_taken n a).1;
        same = destination_taken bytes (2 * n) b;
        ordered = s.0;
        within = omega arith;
      }))))

  pub accepted : elements_answer refusal n bytes first end ≡ Ok tt → AcceptedElements n bytes first end
  accepted =
      by_tests (λ a. a ≡ Ok tt → AcceptedElements n bytes first end)
      refused_not_converted refused_not_converted refused_not_converted (λ k e. k)

  -- the number for a host fits
  pub number_fits : host_number (Err refusal) ≤ 6291456 → host_number (elements_answer refusal n bytes first end) ≤ 6291456
  number_fits h = by_tests (λ a. host_number a ≤ 6291456) h (omega arith) (omega arith) (λ k. omega arith)

  -- where further tests follow, they stand behind these: test after test; what a converted span has passed, and that the number fits if theirs does
  pub tests_then : (further : Result (Unit {0}) Refusal)
      → and_then (elements_answer refusal n bytes first end) further
      ≡ cond (elements_refused n) (Err refusal)
      (cond (destination_refused bytes (2 * n)) (Err DestinationLength) (cond (span_refused (n / 3) first end) (Err Span) further))
  unfolding elements_answer
  tests_then further = go (elements_refused n) (destination_refused bytes (2 * n)) (span_refused (n / 3) first end)
    where
      go : (a b c : Bool) → and_then (cond a (Err refusal) (cond b (Err DestinationLength) (cond c (Err Span) (Ok tt)))) further
          ≡ cond a (Err refusal) (cond b (Err DestinationLength) (cond c (Err Span) further))
      go true b c = refl
      go false true c = refl
      go false false true = refl
      go false false false = refl

  pub accepted_then : (further : Result (Unit {0}) Refusal) → and_then (elements_answer refusal n bytes first end) further ≡ Ok tt
      → AcceptedElements n bytes first end × (further ≡ Ok tt)
  accepted_then further =
      by_tests (λ a. and_then a further ≡ Ok tt → AcceptedElements n bytes first end × (further ≡ Ok tt))
      refused_not_converted refused_not_converted refused_not_converted (λ k e. (k, e))

  pub number_fits_then : (further : Result (Unit {0}) Refusal) → host_number (Err refusal) ≤ 6291456
      → (AcceptedElements n bytes first end → host_number further ≤ 6291456)
      → host_number (and_then (elements_answer refusal n bytes first end) further) ≤ 6291456
  number_fits_then further h fits =
      by_tests (λ a. host_number (and_then a further) ≤ 6291456) h (omega arith) (omega arith) fits

-- ---- parts of a row: b elements from its start, k elements long
pub element_of_part : {A : Type 0} (none : A) (row : List A) (b k i m : ℕ) → b + i ≡ m → i < k → get_or (take k (drop b row)) i none ≡ get_or row m none
element_of_part none row b k i m e h = get_or-take k (drop b row) i none h ∙ get_or-drop b row i none ∙ ap (λ (n : ℕ). get_or row n none) e

module _ {A P : Type 0} (three : A → A → A → P) (none : A) where
  pub pixel_of_part : (row : List A) (b k i j : ℕ) → b + 3 * i ≡ 3 * j → 3 * i + 2 < k
      → elements_at three none (take k (drop b row)) i ≡ elements_at three none row j
  pixel_of_part row b k i j e h =
      let r = element_of_part none row b k (3 * i) (3 * j) e (omega arith) in
      let g = element_of_part none row b k (3 * i + 1) (3 * j + 1) (omega arith) (omega arith) in
      let l = element_of_part none row b k (3 * i + 2) (3 * j + 2) (omega arith) h in
      rw (r, g, l)

  module _ (f : P → Pixel) (row : List A) where
    pub span_of_part : (j n b k : ℕ) → b ≡ 3 * j → 3 * n ≤ k
        → pixels_bytes (converted_elements three none f (take k (drop b row))) 0 n ≡ pixels_bytes (converted_elements three none f row) j n
    span_of_part j n b k e h =
        pixels_same (converted_elements three none f (take k (drop b row))) (converted_elements three none f row) j n
        (λ i l. ap f (pixel_of_part row b k i (j + i) (omega arith) (omega arith)))

    -- ---- the destination of a call that converts from the rest of a row
    pub converted_after : (dst : List ℕ) (first end : ℕ) {a : Result (Unit {0}) Refusal} (ys : List ℕ) (to : ℕ) → a ≡ Ok tt
        → AcceptedElements (length row) (length dst) first end → to ≡ 6 * end
        → ys ≡ elements_into three none f (take (length row - 3 * first) (drop (3 * first) row)) (take (to - 6 * first) (drop (6 * first) dst))
        → take (6 * first) dst ++ (ys ++ drop (to - 6 * first) (drop (6 * first) dst)) ≡ pixels_after a (converted_elements three none f row) dst first end
    converted_after dst first end ys to told k at_end y =
        let src = take (length row - 3 * first) (drop (3 * first) row) in
        let part = take (to - 6 * first) (drop (6 * first) dst) in
        let room : length part ≡ 6 * (end - first) = simp (length-take, length-drop) (omega (arith, k.same, k.within)) in
        let enough : 6 * (end - first) ≤ 2 * length src = simp (length-take, length-drop) (omega (arith, k.within)) in
        pixels_after_lem (converted_elements three none f row) dst first end ys to told k.ordered at_end
        (y ∙ filled (converted_elements three none f src) part (2 * length src) (end - first) room enough
        ∙ span_of_part first (end - first) (3 * first) (length row - 3 * first) refl (omega (arith, k.within)))
