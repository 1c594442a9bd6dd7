-- A test that is computed at every number of a range, or at every entry of a table, as a fact at each of them.
use mathlib.Core.Path.{◌≡◌, ◌∙◌, subst, sym}
use mathlib.Core.Logic.{◌⊎◌, inl, inr}
use mathlib.Core.Bool.{Bool, true, false, ◌&&◌}
use mathlib.Core.List.{List, [], ◌∷◌}
use Prim.Native.Nat.{ℕ, zero, suc, ◌+◌, ◌≤◌, ◌<◌}
use native.Mathlib.Nat.{add-zero, zero-add, add-suc, suc-add, le_dest, le_of_suc-le, le_of_suc-le-suc, not-suc-le-zero, eq-or-lt_of_le, lt_trans}
use native.Mathlib.Decide.{dec_le}
use native.Mathlib.Omega.{arith}
use lib.Dec.{T, ltb, ltb→lt}
use lib.Ieee.Fits.{and_l, and_r}
use lib.ListN.{length, get_or}

-- ---- a range: f at i, i + 1, .., i + n - 1
abbrev pub every_in : (ℕ → Bool) → ℕ → ℕ → Bool
every_in f i zero = true
every_in f i (suc n) = f i && every_in f (suc i) n

pub in_range : (f : ℕ → Bool) (i n : ℕ) → T (every_in f i n) → (k : ℕ) → k < n → T (f (i + k))
in_range f i zero t k h = absurd (not-suc-le-zero h)
in_range f i (suc n) t zero h = subst (λ (m : ℕ). T (f m)) (sym (add-zero i)) (and_l (f i) (every_in f (suc i) n) t)
in_range f i (suc n) t (suc k) h =
    subst (λ (m : ℕ). T (f m)) (suc-add i k ∙ sym (add-suc i k))
    (in_range f (suc i) n (and_r (f i) (every_in f (suc i) n) t) k (le_of_suc-le-suc h))

-- a long range is tested in chunks, which are joined
abbrev pub Chunk : (ℕ → Bool) → ℕ → ℕ → Type 0
Chunk f i e = (j : ℕ) → i ≤ j → j < e → T (f j)

pub chunk : (f : ℕ → Bool) (i n : ℕ) → T (every_in f i n) → Chunk f i (i + n)
chunk f i n t j p q = go (le_dest p)
  where
    go : (k : ℕ) × (i + k ≡ j) → T (f j)
    go w = subst (λ m. T (f m)) w.1 (in_range f i n t w.0 (omega (arith, w.1)))

pub join : (f : ℕ → Bool) (i m e : ℕ) → Chunk f i m → Chunk f m e → Chunk f i e
join f i m e a b j p q = go (dec_le m j)
  where
    go : Dec (m ≤ j) → T (f j)
    go (yes r) = b j r q
    go (no r) = a j p (omega arith)

-- ---- a table: f at each entry, its place counted from i
abbrev pub every : (ℕ → ℕ → Bool) → ℕ → List ℕ → Bool
every f i [] = true
every f i (x ∷ xs) = f i x && every f (suc i) xs

pub at_entry : (f : ℕ → ℕ → Bool) (xs : List ℕ) (i : ℕ) → T (every f i xs) → (k : ℕ) → k < length xs → T (f (i + k) (get_or xs k 0))
at_entry f [] i t k h = absurd (not-suc-le-zero h)
at_entry f (x ∷ xs) i t zero h = subst (λ (m : ℕ). T (f m x)) (sym (add-zero i)) (and_l (f i x) (every f (suc i) xs) t)
at_entry f (x ∷ xs) i t (suc k) h =
    subst (λ (m : ℕ). T (f m (get_or xs k 0))) (suc-add i k ∙ sym (add-suc i k))
    (at_entry f xs (suc i) (and_r (f i x) (every f (suc i) xs) t) k (le_of_suc-le-suc h))

-- places counted from 0
pub at_place : (f : ℕ → ℕ → Bool) (xs : List ℕ) → T (every f 0 xs) → (k : ℕ) → k < length xs → T (f k (get_or xs k 0))
at_place f xs t k h = subst (λ (m : ℕ). T (f m (get_or xs k 0))) (zero-add k) (at_entry f xs 0 t k h)

-- a table whose test is given a hint for each entry: as many hints as entries
module _ {H : Type 0} (f : ℕ → ℕ → H → Bool) where
  abbrev pub every_hinted : ℕ → List ℕ → List H → Bool
  every_hinted i [] [] = true
  every_hinted i [] (h ∷ hs) = false
  every_hinted i (x ∷ xs) [] = false
  every_hinted i (x ∷ xs) (h ∷ hs) = f i x h && every_hinted (suc i) xs hs

  pub at_hinted : (xs : List ℕ) (hs : List H) (i : ℕ) → T (every_hinted i xs hs) → (k : ℕ) → k < length xs → (h : H) × T (f (i + k) (get_or xs k 0) h)
  at_hinted [] [] i t k l = absurd (not-suc-le-zero l)
  at_hinted [] (h ∷ hs) i t k l = absurd t
  at_hinted (x ∷ xs) [] i t k l = absurd t
  at_hinted (x ∷ xs) (h ∷ hs) i t zero l =
      (h, subst (λ (m : ℕ). T (f m x h)) (sym (add-zero i)) (and_l (f i x h) (every_hinted (suc i) xs hs) t))
  at_hinted (x ∷ xs) (h ∷ hs) i t (suc k) l =
      let r = at_hinted xs hs (suc i) (and_r (f i x h) (every_hinted (suc i) xs hs) t) k (le_of_suc-le-suc l) in
      (r.0, subst (λ (m : ℕ). T (f m (get_or xs k 0) r.0)) (suc-add i k ∙ sym (add-suc i k)) r.1)

-- ---- neighbours: f at each entry and the next
abbrev pairs : (ℕ → ℕ → Bool) → ℕ → List ℕ → Bool
pairs f x [] = true
pairs f x (y ∷ ys) = f x y && pairs f y ys

abbrev pub every_pair : (ℕ → ℕ → Bool) → List ℕ → Bool
every_pair f [] = true
every_pair f (x ∷ xs) = pairs f x xs

next : (f : ℕ → ℕ → Bool) (x : ℕ) (xs : List ℕ) → T (pairs f x xs) → (i : ℕ) → i < length xs → T (f (get_or (x ∷ xs) i 0) (get_or xs i 0))
next f x [] t i h = absurd (not-suc-le-zero h)
next f x (y ∷ ys) t zero h = and_l (f x y) (pairs f y ys) t
next f x (y ∷ ys) t (suc i) h = next f y ys (and_r (f x y) (pairs f y ys) t) i (le_of_suc-le-suc h)

pub at_pair : (f : ℕ → ℕ → Bool) (xs : List ℕ) → T (every_pair f xs) → (i : ℕ) → suc i < length xs → T (f (get_or xs i 0) (get_or xs (suc i) 0))
at_pair f [] t i h = absurd (not-suc-le-zero h)
at_pair f (x ∷ xs) t i h = next f x xs t i (le_of_suc-le-suc h)

-- a table whose neighbours rise, rises
pub rises : (xs : List ℕ) → T (every_pair ltb xs) → (i j : ℕ) → i < j → j < length xs → get_or xs i 0 < get_or xs j 0
rises xs t i zero h l = absurd (not-suc-le-zero h)
rises xs t i (suc j) h l = go (λ k. rises xs t i j k (le_of_suc-le l)) (eq-or-lt_of_le (le_of_suc-le-suc h))
  where
    last : get_or xs j 0 < get_or xs (suc j) 0
    last = ltb→lt (get_or xs j 0) (get_or xs (suc j) 0) (at_pair ltb xs t j l)

    go : (i < j → get_or xs i 0 < get_or xs j 0) → (i ≡ j) ⊎ (i < j) → get_or xs i 0 < get_or xs (suc j) 0
    go f (inl e) = rw e last
    go f (inr k) = lt_trans (f k) last
