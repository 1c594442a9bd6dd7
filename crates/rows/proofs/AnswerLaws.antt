-- Laws of the tests of a span, for any test of a sample: what a passed test says, and what a destination and a host's number are after each answer.
use Rattle.std.proofs.Common.{◌≡◌, ℕ, suc, ◌+◌, ◌-◌, ◌*◌, ◌/◌, ◌%◌, ◌^◌, ◌<◌, ◌≤◌, Bool, true, false, cond, not, ◌||◌, eqb, ltb, List, ◌++◌, length, take}
use Rattle.std.proofs.Common.{drop, sym, refl, ap, ◌∙◌, mod-eq_of_lt, arith, length-drop, length-take, ltb-false, ltb-true, eqb-true}
use Rattle.std.proofs.Common.{Option, Some, None, Result, Ok, Err, lt-ltb, le-ltb}
use borrow.Author.Tests.{not-false}
use Rattle.quantity.specs.Component.{Pixel}
use Rattle.refusal.specs.declared.Refusal.{Refusal}
use Rattle.rows.specs.Row.{pixels_bytes, converted, converted_into}
use Rattle.rows.specs.Answer.{first_of, first_refused, before, count_refused, length_refused, destination_refused, span_refused, span_answer}
use Rattle.rows.specs.Answer.{pixels_after, bytes_after, host_number}
use Rattle.rows.proofs.RowLaws.{span_of_part, put_span}
use Rattle.rows.proofs.SpanLaws.{filled}

-- ---- the search for a refused place, one place on, and at its end
pub refused_here : (refused : ℕ → Bool) (i to : ℕ) → i < to → first_of refused i (to - i) ≡ cond (refused i) i (first_of refused (i + 1) (to - (i + 1)))
unfolding first_of
refused_here refused i to h = let e : to - i ≡ suc (to - (i + 1)) = omega arith in ap (first_of refused i) e

pub refused_none : (refused : ℕ → Bool) (i n : ℕ) → n ≡ 0 → first_of refused i n ≡ i
unfolding first_of
refused_none refused i n e = ap (first_of refused i) e

-- whether it found one before an end
pub found_before : {end i k : ℕ} → i ≡ k → k < end → Some k ≡ before end i
found_before {end} {i} {k} e h = sym (simp (e, lt-ltb k end h))

pub none_before : {end i k : ℕ} → i ≡ k → end ≤ k → None ≡ before end i
none_before {end} {i} {k} e h = sym (simp (e, le-ltb k end h))

pub before_some : (end i : ℕ) {k : ℕ} → before end i ≡ Some k → (i ≡ k) × (ltb k end ≡ true)
before_some end i {k} = go (ltb i end) refl
  where
    go : (b : Bool) → ltb i end ≡ b → cond b (Some i) None ≡ Some k → (i ≡ k) × (ltb k end ≡ true)
    go true t e = let k : i ≡ k = cc in (k, rw k at t)
    go false t e = absurd (let n : ◌≡◌ {A = ℕ} 0 1 = cc in omega arith)

pub before_none : (end i : ℕ) → before end i ≡ None → ltb i end ≡ false
before_none end i = go (ltb i end) refl
  where
    go : (b : Bool) → ltb i end ≡ b → ◌≡◌ {A = Option ℕ} (cond b (Some i) None) None → ltb i end ≡ false
    go true t e = absurd (let n : ◌≡◌ {A = ℕ} 0 1 = cc in omega arith)
    go false t e = t

-- ---- tests that are passed
pub neither : (a b : Bool) → a || b ≡ false → (a ≡ false) × (b ≡ false)
neither true b e = absurd (let n : ◌≡◌ {A = ℕ} 0 1 = cc in omega arith)
neither false b e = (refl, e)

pub count_taken : (to_a_pixel count : ℕ) → count_refused to_a_pixel count ≡ false → (count % to_a_pixel ≡ 0) × (count ≤ 8192 * to_a_pixel)
unfolding count_refused
count_taken n count e =
    let t = neither (not (eqb (count % n) 0)) (ltb (8192 * n) count) e in
    (eqb-true (count % n) 0 (not-false (eqb (count % n) 0) t.0), ltb-false (8192 * n) count t.1)

pub length_taken : (bytes : ℕ) → length_refused bytes ≡ false → (bytes % 6 ≡ 0) × (bytes ≤ 49152)
length_taken = count_taken 6

pub destination_taken : (bytes of_row : ℕ) → destination_refused bytes of_row ≡ false → bytes ≡ of_row
unfolding destination_refused
destination_taken bytes of_row e = eqb-true bytes of_row (not-false (eqb bytes of_row) e)

pub span_taken : (pixels first end : ℕ) → span_refused pixels first end ≡ false → (first ≤ end) × (end ≤ pixels)
unfolding span_refused
span_taken pixels first end e =
    let t = neither (ltb end first) (ltb pixels end) e in
    (ltb-false end first t.0, ltb-false pixels end t.1)

-- ---- answers
-- what holds of both answers of a test holds of its answer
pub either : (P : Result (Unit {0}) Refusal → Type 0) (b : Bool) (x y : Result (Unit {0}) Refusal) → (b ≡ true → P x) → (b ≡ false → P y) → P (cond b x y)
either P true x y p q = p refl
either P false x y p q = q refl

pub refused_not_converted : {A : Type 0} {refusal : Refusal} → ◌≡◌ {A = Result (Unit {0}) Refusal} (Err refusal) (Ok tt) → A
refused_not_converted e = cc

-- what has been tested where a span is converted
pub record Accepted (row : List ℕ) (bytes first end : ℕ) : Type 0 where
  pub pixels : length row % 6 ≡ 0
  pub longest : length row ≤ 49152
  pub same : bytes ≡ length row
  pub ordered : first ≤ end
  pub within : 6 * end ≤ length row

module _ (refused : ℕ → Bool) (row : List ℕ) (bytes first end : ℕ) where
  pub accepted : span_answer refused row bytes first end ≡ Ok tt → Accepted row bytes first end
  unfolding span_answer
  accepted =
      let i = first_refused refused row (3 * first) (3 * (end - first)) in
      let P : Result (Unit {0}) Refusal → Type 0 = λ a. a ≡ Ok tt → Accepted row bytes first end in
      either P (length_refused (length row)) _ _ (λ _. refused_not_converted) (λ a.
      either P (destination_refused bytes (length row)) _ _ (λ _. refused_not_converted) (λ b.
      either P (span_refused (length row / 6) first end) _ _ (λ _. refused_not_converted) (λ c.
      either P (ltb i (3 * end)) _ _ (λ _. refused_not_converted) (λ _ _.
      let l = length_taken (length row) a in
      let s = span_taken (length row / 6) first end c in
      record {
        pixels = l.0;
        longest = l.1;
        same = destination_taken bytes (length row) b;
        ordered = s.0;
        within = omega arith;
      }))))

  -- the number for a host fits: at most 9, and a sample of the longest row
  pub host_number_fits : host_number (span_answer refused row bytes first end) ≤ 6291456
  unfolding span_answer
  host_number_fits =
      let i = first_refused refused row (3 * first) (3 * (end - first)) in
      let P : Result (Unit {0}) Refusal → Type 0 = λ a. host_number a ≤ 6291456 in
      either P (length_refused (length row)) _ _ (λ _. omega arith) (λ a.
      either P (destination_refused bytes (length row)) _ _ (λ _. omega arith) (λ b.
      either P (span_refused (length row / 6) first end) _ _ (λ _. omega arith) (λ c.
      either P (ltb i (3 * end)) _ _ (λ d.
      let l = length_taken (length row) a in
      let s = span_taken (length row / 6) first end c in
      let k = ltb-true i (3 * end) d in
      omega arith) (λ _. omega arith))))

-- ---- the destination of a refused call, and of one that converts into the part of it that the span has
module _ (p : ℕ → Pixel) (dst : List ℕ) (first end : ℕ) {a : Result (Unit {0}) Refusal} where
  pub refused_after : {refusal : Refusal} → a ≡ Err refusal → dst ≡ pixels_after a p dst first end
  refused_after told = sym (ap (λ (x : Result (Unit {0}) Refusal). pixels_after x p dst first end) told)

  pub pixels_after_lem : (ys : List ℕ) (to : ℕ) → a ≡ Ok tt → first ≤ end → to ≡ 6 * end → ys ≡ pixels_bytes p first (end - first)
      → take (6 * first) dst ++ (ys ++ drop (to - 6 * first) (drop (6 * first) dst)) ≡ pixels_after a p dst first end
  pixels_after_lem ys to told ordered at_end y =
      ap (λ (n : ℕ). take (6 * first) dst ++ (ys ++ drop (n - 6 * first) (drop (6 * first) dst))) at_end
      ∙ put_span p dst ys first end ordered y
      ∙ sym (ap (λ (x : Result (Unit {0}) Refusal). pixels_after x p dst first end) told)

-- and from the rest of a row
pub converted_after : (f : Pixel → Pixel) (row dst : List ℕ) (first end : ℕ) {a : Result (Unit {0}) Refusal} (ys : List ℕ) (to : ℕ) → a ≡ Ok tt
    → Accepted row (length dst) first end → to ≡ 6 * end
    → ys ≡ converted_into f (take (length row - 6 * first) (drop (6 * first) row)) (take (to - 6 * first) (drop (6 * first) dst))
    → take (6 * first) dst ++ (ys ++ drop (to - 6 * first) (drop (6 * first) dst)) ≡ bytes_after a f row dst first end
converted_after f row dst first end ys to told k at_end y =
    let src = take (length row - 6 * first) (drop (6 * first) row) in
    let part = take (to - 6 * first) (drop (6 * first) dst) in
    let room : length part ≡ 6 * (end - first) = simp (length-take, length-drop) (omega (arith, k.same, k.within)) in
    let enough : 6 * (end - first) ≤ length src = simp (length-take, length-drop) (omega (arith, k.within)) in
    pixels_after_lem (converted f row) dst first end ys to told k.ordered at_end
    (y ∙ filled (converted f src) part (length src) (end - first) room enough
    ∙ span_of_part f row first (end - first) (6 * first) (length row - 6 * first) refl (omega (arith, k.within)))

-- ---- the number that a host is given of an answer that is another's, and fits
pub host_number_is : {a b : Result (Unit {0}) Refusal} {r : ℕ} → r ≡ host_number a % 2 ^ 64 → a ≡ b → host_number b ≤ 6291456 → r ≡ host_number b
host_number_is {b = b} e same fits = e ∙ ap (λ (x : Result (Unit {0}) Refusal). host_number x % 2 ^ 64) same ∙ mod-eq_of_lt (omega arith)
