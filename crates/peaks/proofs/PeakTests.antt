-- A test of the PQ signal of each whole peak, cell by cell of the light table, in one walk over peaks and cells; and what a passed walk gives.
use mathlib.Core.Path.{◌≡◌, ap, ◌∙◌, subst}
use mathlib.Core.Bool.{Bool, true, false, ◌&&◌}
use mathlib.Core.List.{List, [], ◌∷◌}
use Prim.Native.Nat.{ℕ, zero, suc, pred, ◌+◌, ◌-◌, ◌*◌, ◌/◌, ◌^◌, ◌≤◌, ◌<◌}
use native.Mathlib.Nat.{add-zero}
use native.Mathlib.Decide.{dec_le}
use native.Mathlib.Omega.{arith}
use lib.Dec.{T, leb, ltb, leb→le, ltb→lt}
use lib.Ieee.Fits.{and_l, and_r}
use lib.ListN.{length, get_or}
use Rattle.laws.specs.Fraction.{whole}
use Rattle.pq.specs.Pq.{ValueAtMost, ValueAtLeast, position_signal}
use Rattle.quantity.specs.Units.{units}
use Rattle.position.proofs.PositionLaws.{cell_part, in_cell}
use Rattle.pq.proofs.PqTests.{at_most_test, at_most_test→, above_test, above_test→, Hint, hint}
use Rattle.pq.proofs.PqLaws.{at_least_of_above}

-- the signal of light l lies from one position before q to two after it
pub record Between (l q : ℕ) : Type 0 where
  pub low : ValueAtLeast (whole l) (position_signal (pred q))
  pub high : ValueAtMost (whole l) (position_signal (q + 2))

-- light l lies in the cell k, from p to q, and its signal near its position there
pub record Cell (k p q l : ℕ) : Type 0 where
  pub range : k < 3504
  pub from : p ≤ l
  pub to : l < q
  pub between : Between l (in_cell k p (q - p) l)

-- the test, with the witnesses between a at the cell's begin and a + s at its end, in 1 / 2 ^ 64
abbrev pub inside : ℕ → ℕ → ℕ → ℕ → ℕ → ℕ → ℕ → Bool
inside k p q a s j l =
    let f = cell_part p (q - p) l in
    above_test l 1 (pred (k * 256 + f)) 897024 (a + s * (2 * f - 1) / 512) 64 j && at_most_test l 1 (k * 256 + f + 2) 897024 (a + s * (2 * f + 3) / 512) 64 j

abbrev pub one : ℕ → ℕ → ℕ → ℕ → ℕ → ℕ → ℕ → Bool
one k p q a s j l = ltb k 3504 && (leb p l && (ltb l q && inside k p q a s j l))

pub one→ : (k p q a s j l : ℕ) → T (one k p q a s j l) → Cell k p q l
one→ k p q a s j l t =
    let f = cell_part p (q - p) l in
    let c1 = ltb k 3504 in
    let c2 = leb p l in
    let c3 = ltb l q in
    let c4 = above_test l 1 (pred (k * 256 + f)) 897024 (a + s * (2 * f - 1) / 512) 64 j in
    let c5 = at_most_test l 1 (k * 256 + f + 2) 897024 (a + s * (2 * f + 3) / 512) 64 j in
    let t2 = and_r c1 (c2 && (c3 && (c4 && c5))) t in
    let t3 = and_r c2 (c3 && (c4 && c5)) t2 in
    let t4 = and_r c3 (c4 && c5) t3 in
    record {
      range = ltb→lt k 3504 (and_l c1 (c2 && (c3 && (c4 && c5))) t);
      from = leb→le p l (and_l c2 (c3 && (c4 && c5)) t2);
      to = ltb→lt l q (and_l c3 (c4 && c5) t3);
      between = record {
        low = at_least_of_above (above_test→ (whole l) (position_signal (pred (k * 256 + f))) (a + s * (2 * f - 1) / 512) 64 j
            (and_l c4 c5 t4));
        high = at_most_test→ (whole l) (position_signal (k * 256 + f + 2)) (a + s * (2 * f + 3) / 512) 64 j (and_r c4 c5 t4);
      };
    }

-- n peaks of one cell, from the peak m on
abbrev pub cell : ℕ → ℕ → ℕ → ℕ → ℕ → ℕ → ℕ → ℕ → Bool
cell zero k p q a s j m = true
cell (suc n) k p q a s j m = one k p q a s j (m * units) && cell n k p q a s j (suc m)

-- of the peaks m to m + n, the first or a later one
pick : (m n i : ℕ) (C : ℕ → Type 0) → m ≤ i → i < m + suc n → C (m * units) → (suc m ≤ i → i < suc m + n → C (i * units)) → C (i * units)
pick m n i C l h first next = go (dec_le (suc m) i)
  where
    go : Dec (suc m ≤ i) → C (i * units)
    go (yes r) = next r (omega arith)
    go (no r) = subst (λ (z : ℕ). C (z * units)) (omega arith) first

cell→ : (n k p q a s j m : ℕ) → T (cell n k p q a s j m) → (i : ℕ) → m ≤ i → i < m + n → Cell k p q (i * units)
cell→ zero k p q a s j m t i l h = absurd (omega arith)
cell→ (suc n) k p q a s j m t i l h = pick m n i (Cell k p q) l h
    (one→ k p q a s j (m * units) (and_l (one k p q a s j (m * units)) (cell n k p q a s j (suc m)) t))
    (cell→ n k p q a s j (suc m) (and_r (one k p q a s j (m * units)) (cell n k p q a s j (suc m)) t) i)

-- the peaks from m to e - 1, over the cells from k on: p is the entry at k, a its witness, and the lists have the entries and hints after it
abbrev pub walk : ℕ → ℕ → ℕ → ℕ → ℕ → ℕ → List ℕ → List Hint → Bool
walk e k m p a j [] [] = leb e m
walk e k m p a j [] (h ∷ hs) = false
walk e k m p a j (q ∷ ps) [] = false
walk e k m p a j (q ∷ ps) (hint b c i ∷ hs) =
    let z = b * 2 ^ (64 - c) in
    let n = suc (pred q / units) - m in
    cell n k p q a (z - a) j m && walk e (suc k) (m + n) q z i ps hs

-- the light i * units lies in a cell of the table f
abbrev pub Found : (ℕ → ℕ) → ℕ → Type 0
Found f i = (k : ℕ) × Cell k (f k) (f (suc k)) (i * units)

-- in this cell, or in a later one
here_or_on : (f : ℕ → ℕ) (k m n p q i : ℕ) → m ≤ i → p ≡ f k → q ≡ f (suc k) → (i < m + n → Cell k p q (i * units)) → (m + n ≤ i → Found f i) → Found f i
here_or_on f k m n p q i l hp hq now on = go (dec_le (m + n) i)
  where
    go : Dec (m + n ≤ i) → Found f i
    go (yes r) = on r
    go (no r) = (k, subst (λ (x : ℕ). Cell k x (f (suc k)) (i * units)) hp (subst (λ (x : ℕ). Cell k p x (i * units)) hq (now (omega arith))))

pub walk→ : (f : ℕ → ℕ) (e k m p a j : ℕ) (ps : List ℕ) (hs : List Hint) → T (walk e k m p a j ps hs)
    → p ≡ f k → ((i : ℕ) → i < length ps → get_or ps i 0 ≡ f (suc k + i)) → (i : ℕ) → m ≤ i → i < e → Found f i
walk→ f e k m p a j [] [] t hp hs i l h = absurd (omega (arith, leb→le e m t))
walk→ f e k m p a j [] (x ∷ xs) t hp hs i l h = absurd t
walk→ f e k m p a j (q ∷ ps) [] t hp hs i l h = absurd t
walk→ f e k m p a j (q ∷ ps) (hint b c y ∷ xs) t hp hs i l h =
    let z = b * 2 ^ (64 - c) in
    let n = suc (pred q / units) - m in
    let now = and_l (cell n k p q a (z - a) j m) (walk e (suc k) (m + n) q z y ps xs) t in
    let then = and_r (cell n k p q a (z - a) j m) (walk e (suc k) (m + n) q z y ps xs) t in
    let hq : q ≡ f (suc k) = hs 0 (omega arith) ∙ ap f (add-zero (suc k)) in
    here_or_on f k m n p q i l hp hq (cell→ n k p q a (z - a) j m now i l)
    (λ r. walk→ f e (suc k) (m + n) q z y ps xs then hq (λ d r. hs (suc d) (omega arith) ∙ ap f (omega arith)) i r h)
