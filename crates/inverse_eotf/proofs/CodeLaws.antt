-- Laws of `pq_code`: its range, the thresholds that a light reaches and misses, black, and its growth; from the laws of `largest`.
use mathlib.Core.Path.{◌≡◌, sym}
use mathlib.Core.Logic.{◌⊎◌, inl, inr}
use mathlib.Core.Bool.{true}
use Prim.Native.Nat.{ℕ, ◌+◌, ◌≤◌, ◌<◌}
use native.Mathlib.Nat.{le_trans, le_antisymm, lt_of_le_of_lt}
use native.Mathlib.Decide.{dec_le}
use native.Mathlib.Omega.{arith}
use lib.Dec.{leb}
use borrow.Author.Tests.{leb-true, le-leb, lt-leb}
use Rattle.laws.specs.Largest.{Falling}
use Rattle.laws.proofs.LargestLaws.{at_most_falls, Found, found, found_is, passes_le, grows}
use Rattle.pq.proofs.EntryLaws.{entry_first, entries_grow, entries_grow_strictly}
use Rattle.inverse_eotf.specs.Code.{threshold_light, pq_code}

pub thresholds_grow : (D E : ℕ) → D ≤ E → threshold_light D ≤ threshold_light E
thresholds_grow D E h = entries_grow _ _ (omega arith)

-- thresholds grow, so a code that is missed leaves all above it
pub code_falls : (c : ℕ) → Falling (λ D. leb (threshold_light D) c)
code_falls c = at_most_falls threshold_light c thresholds_grow

code_found : (c : ℕ) → Found (λ D. leb (threshold_light D) c) 64 876 (pq_code c)
unfolding pq_code
code_found c = found (λ D. leb (threshold_light D) c) 64 876

pub code_from : (c : ℕ) → 64 ≤ pq_code c
code_from c = (code_found c).from

pub code_to : (c : ℕ) → pq_code c ≤ 940
code_to c = (code_found c).to

-- a code above 64 is reached, and one that is reached is at most the code
pub code_reached : (c : ℕ) → 64 < pq_code c → threshold_light (pq_code c) ≤ c
code_reached c h = go (code_found c).passes
  where
    go : (pq_code c ≡ 64) ⊎ (leb (threshold_light (pq_code c)) c ≡ true) → threshold_light (pq_code c) ≤ c
    go (inl e) = absurd (omega arith)
    go (inr t) = leb-true (threshold_light (pq_code c)) c t

pub reached_le : (c D : ℕ) → D ≤ 940 → threshold_light D ≤ c → D ≤ pq_code c
unfolding pq_code
reached_le c D h l = passes_le (λ E. leb (threshold_light E) c) 64 876 D h (le-leb (threshold_light D) c l)

-- a light between two, of which the one reaches D and the other misses what follows, has the code D
pub settled : (low high c D : ℕ) → low ≤ c → c ≤ high → 64 ≤ D → D ≤ 940 → (64 < D → threshold_light D ≤ low) → (D < 940 → high < threshold_light (D + 1))
    → D ≡ pq_code c
unfolding pq_code
settled low high c D under over from to reached missed =
    found_is (λ E. leb (threshold_light E) c) 64 876 D
    (record {
      from = from;
      to = to;
      passes = passes (dec_le D 64);
      last = λ k l m. (code_falls c).on (D + 1) k (omega arith) (lt-leb (threshold_light (D + 1)) c (lt_of_le_of_lt over (missed (omega arith))));
    })
  where
    passes : Dec (D ≤ 64) → (D ≡ 64) ⊎ (leb (threshold_light D) c ≡ true)
    passes (yes p) = inl (le_antisymm p from)
    passes (no p) = inr (le-leb (threshold_light D) c (le_trans (reached (omega arith)) under))

-- no light has the code of black
pub code_black : pq_code 0 ≡ 64
code_black =
    sym (settled 0 0 0 64 (omega arith) (omega arith) (omega arith) (omega arith) (λ h. absurd (omega arith))
    (λ h. omega (arith, entry_first, entries_grow_strictly 0 2 (omega arith) (omega arith))))

pub code_grows : (c d : ℕ) → c ≤ d → pq_code c ≤ pq_code d
unfolding pq_code
code_grows c d h =
    grows (λ D. leb (threshold_light D) c) (λ D. leb (threshold_light D) d) 64 876
    (λ D t. le-leb (threshold_light D) d (le_trans (leb-true (threshold_light D) c t) h))
