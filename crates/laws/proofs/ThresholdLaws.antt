-- The largest number of a range whose threshold is at most a value, for thresholds that grow: what it reaches and misses, how two tests settle it, and
-- that it grows with the value.
use mathlib.Core.Path.{◌≡◌}
use mathlib.Core.Logic.{◌⊎◌, inl, inr}
use mathlib.Core.Bool.{Bool, true}
use Prim.Native.Nat.{ℕ, ◌+◌, ◌≤◌, ◌<◌}
use native.Mathlib.Nat.{le_trans, le_antisymm, lt_of_le_of_lt}
use native.Mathlib.Decide.{dec_le}
use native.Mathlib.Omega.{arith}
use lib.Dec.{leb}
use borrow.Author.Tests.{leb-true, le-leb, lt-leb}
use Rattle.laws.specs.Largest.{largest, Falling}
use Rattle.laws.proofs.LargestLaws.{at_most_falls, Found, found, found_is, passes_le, grows}

module _ (threshold : ℕ → ℕ) (lo n : ℕ) where
  abbrev pub reached_by : ℕ → ℕ → Bool
  reached_by c d = leb (threshold d) c

  -- the number found
  abbrev pub last_reached : ℕ → ℕ
  last_reached c = largest (reached_by c) lo n

  pub reached_found : (c : ℕ) → Found (reached_by c) lo n (last_reached c)
  reached_found c = found (reached_by c) lo n

  -- a number above lo is reached, and one that is reached is at most the number found
  pub reached : (c : ℕ) → lo < last_reached c → threshold (last_reached c) ≤ c
  reached c h = go (reached_found c).passes
    where
      go : (last_reached c ≡ lo) ⊎ (reached_by c (last_reached c) ≡ true) → threshold (last_reached c) ≤ c
      go (inl e) = absurd (omega arith)
      go (inr t) = leb-true (threshold (last_reached c)) c t

  pub reached_le : (c d : ℕ) → d ≤ lo + n → threshold d ≤ c → d ≤ last_reached c
  reached_le c d h l = passes_le (reached_by c) lo n d h (le-leb (threshold d) c l)

  pub reached_grows : (c e : ℕ) → c ≤ e → last_reached c ≤ last_reached e
  reached_grows c e h = grows (reached_by c) (reached_by e) lo n (λ d t. le-leb (threshold d) e (le_trans (leb-true (threshold d) c t) h))

  module _ (grow : (c d : ℕ) → c ≤ d → threshold c ≤ threshold d) where
    -- thresholds grow, so a number that is missed leaves all above it
    pub reached_falls : (c : ℕ) → Falling (reached_by c)
    reached_falls c = at_most_falls threshold c grow

    -- a value between two, of which the one reaches d and the other misses what follows, finds d
    pub settled : (low high c d : ℕ) → low ≤ c → c ≤ high → lo ≤ d → d ≤ lo + n → (lo < d → threshold d ≤ low) → (d < lo + n → high < threshold (d + 1))
        → d ≡ last_reached c
    settled low high c d under over from to reaching missing =
        found_is (reached_by c) lo n d
        (record {
          from = from;
          to = to;
          passes = passes (dec_le d lo);
          last = λ k l m. (reached_falls c).on (d + 1) k (omega arith) (lt-leb (threshold (d + 1)) c (lt_of_le_of_lt over (missing (omega arith))));
        })
      where
        passes : Dec (d ≤ lo) → (d ≡ lo) ⊎ (reached_by c d ≡ true)
        passes (yes p) = inl (le_antisymm p from)
        passes (no p) = inr (le-leb (threshold d) c (le_trans (reaching (omega arith)) under))
