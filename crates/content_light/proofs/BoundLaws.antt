-- What bounds of a row's samples show: that every sample is taken, and how bright a pixel can be.
use mathlib.Core.Path.{◌≡◌, ap, subst, ◌∙◌}
use mathlib.Core.Bool.{Bool, false}
use mathlib.Core.List.{List}
use Prim.Native.Nat.{ℕ, zero, suc, max, min, ◌+◌, ◌-◌, ◌*◌, ◌/◌, ◌≤◌, ◌<◌, zero-le}
use lib.ListN.{length}
use native.Mathlib.Decide.{dec_lt}
use native.Mathlib.Omega.{arith}
use borrow.Author.Tests.{le-ltb}
use Rattle.quantity.specs.Component.{pixel, brightest}
use Rattle.rows.specs.Row.{sample_at, pixel_at}
use Rattle.rows.specs.Answer.{outside, first_of, first_refused}
use Rattle.content_light.specs.Bounds.{Bounded}

-- ---- bounds pixel by pixel
pub no_pixel_bounded : (row : List ℕ) (least : ℕ) → Bounded row 0 least 0
no_pixel_bounded row least = record { above = λ i h. absurd (omega arith); below = λ i h. absurd (omega arith); reached = λ m h. zero-le }

-- the last three samples, or one before them
last_three : (P : ℕ → Type 0) (n : ℕ) → ((i : ℕ) → i < 3 * n → P i) → P (3 * n) → P (3 * n + 1) → P (3 * n + 2) → (i : ℕ) → i < 3 * (n + 1) → P i
last_three P n before r g b i h = go (dec_lt i (3 * n)) (dec_lt i (3 * n + 1)) (dec_lt i (3 * n + 2))
  where
    go : Dec (i < 3 * n) → Dec (i < 3 * n + 1) → Dec (i < 3 * n + 2) → P i
    go (yes l) y z = before i l
    go (no l) (yes y) z = subst P (omega arith) r
    go (no l) (no y) (yes z) = subst P (omega arith) g
    go (no l) (no y) (no z) = subst P (omega arith) b

pub next_bounded : {row : List ℕ} {n least most r g b : ℕ} → Bounded row n least most
    → r ≡ sample_at row (3 * n) → g ≡ sample_at row (3 * n + 1) → b ≡ sample_at row (3 * n + 2)
    → Bounded row (n + 1) (min least (min (min r g) b)) (max most (brightest (pixel r g b)))
next_bounded {row} {n} {least} {most} {r} {g} {b} x p q s =
    let low = min least (min (min r g) b) in
    let high = max most (brightest (pixel r g b)) in
    record {
      above = last_three (λ i. low ≤ sample_at row i) n (λ i h. let k = x.above i h in omega arith) (omega arith) (omega arith) (omega arith);
      below = last_three (λ i. sample_at row i ≤ high) n (λ i h. let k = x.below i h in omega arith) (omega arith) (omega arith) (omega arith);
      reached = λ m h. let new : brightest (pixel r g b) ≤ m = rw (p, q, s) (h n (omega arith)) in omega (arith, x.reached m (λ j k. h j (omega arith)));
    }

-- ---- what they show
-- no sample is refused
none_refused : (refused : ℕ → Bool) (row : List ℕ) (i n : ℕ) → ((k : ℕ) → i ≤ k → k < i + n → refused (sample_at row k) ≡ false)
    → first_refused refused row i n ≡ i + n
unfolding first_of
none_refused refused row i zero h = omega arith
none_refused refused row i (suc n) h =
    simp (h i (omega arith) (omega arith))
    (none_refused refused row (i + 1) n (λ k l u. h k (omega arith) (omega arith)) ∙ omega arith)

-- the search over all samples that a row has, as `first_refused` gives it
pub whole_search : (refused : ℕ → Bool) (row : List ℕ)
    → first_refused refused row 0 (min (length row / 2) (length row / 2) - 0) ≡ first_refused refused row 0 (length row / 2)
whole_search refused row = let e : min (length row / 2) (length row / 2) - 0 ≡ length row / 2 = omega arith in ap (first_refused refused row 0) e

module _ {row : List ℕ} {n least most : ℕ} (b : Bounded row n least most) where
  -- samples within the range are all taken
  pub all_taken : (from to samples : ℕ) → samples ≤ 3 * n → from ≤ least → most ≤ to → first_refused (outside from to) row 0 samples ≡ samples
  unfolding outside
  all_taken from to samples s l u =
      none_refused (outside from to) row 0 samples
      (λ k _ h.
      let up = b.below k (omega arith) in
      let down = b.above k (omega arith) in
      simp (le-ltb (sample_at row k) from (omega arith), le-ltb to (sample_at row k) (omega arith)))
      ∙ omega arith

  -- no pixel's brightest code exceeds the most
  pub brightest_bounded : (j : ℕ) → j < n → brightest (pixel_at row j) ≤ most
  brightest_bounded j h =
      let r = b.below (3 * j) (omega arith) in
      let g = b.below (3 * j + 1) (omega arith) in
      let l = b.below (3 * j + 2) (omega arith) in
      omega arith
