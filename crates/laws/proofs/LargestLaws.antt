-- Laws of `largest`: what it finds, and how a search may narrow its range.
use mathlib.Core.Path.{◌≡◌, refl, sym, ◌∙◌, ap, ap₂, subst}
use mathlib.Core.Logic.{◌⊎◌, inl, inr}
use mathlib.Core.Bool.{Bool, true, false, true≢false}
use Prim.Native.Nat.{ℕ, zero, suc, ◌+◌, ◌-◌, ◌/◌, ◌≤◌, ◌<◌}
use native.Mathlib.Nat.{add-zero, add-suc, le_refl, le_antisymm, lt_of_lt_of_le}
use native.Mathlib.Decide.{dec_le}
use native.Mathlib.Omega.{arith}
use lib.Dec.{leb}
use borrow.Author.Tests.{leb-false, lt-leb}
use Rattle.laws.specs.Largest.{choose, largest, Falling}

here : (f : ℕ → Bool) (lo m : ℕ) → f (lo + m) ≡ true → largest f lo m ≡ lo + m
unfolding largest
here f lo zero e = sym (add-zero lo)
here f lo (suc m) e = ap (λ (t : Bool). choose t (lo + suc m) (largest f lo m)) e

-- where lo + m passes, the search goes on from it
pub from_reached : (f : ℕ → Bool) (lo m n : ℕ) → f (lo + m) ≡ true → largest f lo (m + n) ≡ largest f (lo + m) n
unfolding largest
from_reached f lo m zero e = ap (largest f lo) (add-zero m) ∙ here f lo m e
from_reached f lo m (suc n) e =
    ap (largest f lo) (add-suc m n)
    ∙ ap₂ (λ (k r : ℕ). choose (f k) k r) (omega arith) (from_reached f lo m n e)

-- where nothing above lo + m passes, the search ends at or below it
pub up_to : (f : ℕ → Bool) (lo m n : ℕ) → ((k : ℕ) → m < k → k ≤ m + n → f (lo + k) ≡ false) → largest f lo (m + n) ≡ largest f lo m
unfolding largest
up_to f lo m zero none = ap (largest f lo) (add-zero m)
up_to f lo m (suc n) none =
    ap (largest f lo) (add-suc m n)
    ∙ ap (λ (t : Bool). choose t (lo + suc (m + n)) (largest f lo (m + n))) (none (suc (m + n)) (omega arith) (omega arith))
    ∙ up_to f lo m n (λ k l h. none k l (omega arith))

-- d is what a search finds: lo, or a number of the range that passes, with none that passes above it
pub record Found (f : ℕ → Bool) (lo n d : ℕ) : Type 0 where
  pub from : lo ≤ d
  pub to : d ≤ lo + n
  pub passes : (d ≡ lo) ⊎ (f d ≡ true)
  pub last : (k : ℕ) → d < k → k ≤ lo + n → f k ≡ false

pub found : (f : ℕ → Bool) (lo n : ℕ) → Found f lo n (largest f lo n)
unfolding largest
found f lo zero = record { from = le_refl lo; to = omega arith; passes = inl refl; last = λ k l h. absurd (omega arith) }
found f lo (suc n) = go (f (lo + suc n)) refl (found f lo n)
  where
    beyond : (k : ℕ) → f (lo + suc n) ≡ false → Found f lo n (largest f lo n) → largest f lo n < k → k ≤ lo + suc n → Dec (k ≤ lo + n) → f k ≡ false
    beyond k e w l h (yes r) = w.last k l r
    beyond k e w l h (no r) = subst (λ (z : ℕ). f z ≡ false) (omega arith) e

    go : (t : Bool) → f (lo + suc n) ≡ t → Found f lo n (largest f lo n) → Found f lo (suc n) (choose t (lo + suc n) (largest f lo n))
    go true e w = record { from = omega arith; to = le_refl (lo + suc n); passes = inr e; last = λ k l h. absurd (omega arith) }
    go false e w =
        record {
          from = w.from;
          to = omega (arith, w.to);
          passes = w.passes;
          last = λ k l h. beyond k e w l h (dec_le k (lo + n));
        }

-- at most one number is what a search finds
below : (f : ℕ → Bool) (lo n c d : ℕ) → Found f lo n c → Found f lo n d → c ≤ d
below f lo n c d x y = go (dec_le c d) x.passes
  where
    go : Dec (c ≤ d) → (c ≡ lo) ⊎ (f c ≡ true) → c ≤ d
    go (yes p) r = p
    go (no p) (inl e) = omega (arith, y.from)
    go (no p) (inr t) = absurd (true≢false (sym t ∙ y.last c (omega arith) x.to))

pub found_is : (f : ℕ → Bool) (lo n d : ℕ) → Found f lo n d → d ≡ largest f lo n
found_is f lo n d x = le_antisymm (below f lo n d (largest f lo n) x (found f lo n)) (below f lo n (largest f lo n) d (found f lo n) x)

-- what passes is at most what is found
pub passes_le : (f : ℕ → Bool) (lo n k : ℕ) → k ≤ lo + n → f k ≡ true → k ≤ largest f lo n
passes_le f lo n k h t = go (dec_le k (largest f lo n))
  where
    go : Dec (k ≤ largest f lo n) → k ≤ largest f lo n
    go (yes p) = p
    go (no p) = absurd (true≢false (sym t ∙ (found f lo n).last k (omega arith) h))

-- a weaker test finds no less
pub grows : (f g : ℕ → Bool) (lo n : ℕ) → ((k : ℕ) → f k ≡ true → g k ≡ true) → largest f lo n ≤ largest g lo n
grows f g lo n imp = go (found f lo n).passes
  where
    go : (largest f lo n ≡ lo) ⊎ (f (largest f lo n) ≡ true) → largest f lo n ≤ largest g lo n
    go (inl e) = omega (arith, (found g lo n).from)
    go (inr t) = passes_le g lo n (largest f lo n) (found f lo n).to (imp (largest f lo n) t)

-- ---- halving, for any test that fails from where it fails once, as the test that what grows is at most l
pub at_most_falls : (g : ℕ → ℕ) (l : ℕ) → ((j k : ℕ) → j ≤ k → g j ≤ g k) → Falling (λ k. leb (g k) l)
at_most_falls g l grows = record { on = λ j k h e. lt-leb (g k) l (lt_of_lt_of_le (leb-false (g j) l e) (grows j k h)) }

-- a search over a span of 0 stays where it is; else the middle decides one half: where it passes, what is found from it on, and where it
-- fails, what is found below it
module _ (f : ℕ → Bool) (from span : ℕ) where
  pub no_span : span ≡ 0 → from ≡ largest f from span
  unfolding largest
  no_span e = sym (ap (largest f from) e)

  module _ {r : ℕ} where
    pub upper_half : f (from + (span - span / 2)) ≡ true → r ≡ largest f (from + (span - span / 2)) (span / 2) → r ≡ largest f from span
    upper_half t h =
        let e : span - span / 2 + span / 2 ≡ span = omega arith in
        h ∙ sym (from_reached f from (span - span / 2) (span / 2) t) ∙ ap (largest f from) e

    pub lower_half : Falling f → 0 < span → f (from + (span - span / 2)) ≡ false → r ≡ largest f from (span - span / 2 - 1)
        → r ≡ largest f from span
    lower_half falling p t h =
        let e : span - span / 2 - 1 + (span / 2 + 1) ≡ span = omega arith in
        h
        ∙ sym (up_to f from (span - span / 2 - 1) (span / 2 + 1) (λ k a b. falling.on (from + (span - span / 2)) (from + k) (omega arith) t))
        ∙ ap (largest f from) e
