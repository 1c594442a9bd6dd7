-- A test at places inside the cells of the light table, computed in one walk over entries and hints, as a fact at each place.
use mathlib.Core.Path.{◌≡◌, sym, ap, ◌∙◌, subst}
use mathlib.Core.Bool.{Bool, true, false, ◌&&◌}
use mathlib.Core.List.{List, [], ◌∷◌}
use Prim.Native.Nat.{ℕ, zero, suc, pred, min, ◌+◌, ◌-◌, ◌/◌, ◌^◌, ◌≤◌, ◌<◌}
use native.Mathlib.Nat.{add-zero, add-suc, suc-add, not-suc-le-zero, le_of_suc-le-suc}
use native.Mathlib.Omega.{arith}
use lib.Dec.{T}
use lib.Ieee.Fits.{and_l, and_r}
use lib.ListN.{length, get_or, take, drop, length-take, length-drop}
use Rattle.laws.proofs.ComputedTests.{every_in, chunk}
use Rattle.pq.specs.LightTable.{light_table, light_entry}
use Rattle.pq.proofs.PqTests.{Hint, hint}
use Rattle.pq.proofs.TableHints.{hints}
use Rattle.pq.proofs.EntryLaws.{table_length, part_at}

-- ---- f at each cell, counted from k: p is the entry at k, g its hint, and the lists have the entries and hints after it
module _ (f : ℕ → ℕ → ℕ → Hint → Hint → Bool) where
  abbrev walk : ℕ → ℕ → Hint → List ℕ → List Hint → Bool
  walk k p g [] [] = true
  walk k p g [] (h ∷ hs) = false
  walk k p g (r ∷ ps) [] = false
  walk k p g (r ∷ ps) (h ∷ hs) = f k p r g h && walk (suc k) r h ps hs

  abbrev Passed : ℕ → ℕ → ℕ → Type 0
  Passed k p r = (g : Hint) × ((h : Hint) × T (f k p r g h))

  walk→ : (k p : ℕ) (g : Hint) (ps : List ℕ) (hs : List Hint) → T (walk k p g ps hs)
      → (i : ℕ) → i < length ps → Passed (k + i) (get_or (p ∷ ps) i 0) (get_or ps i 0)
  walk→ k p g [] [] t i l = absurd (not-suc-le-zero l)
  walk→ k p g [] (h ∷ hs) t i l = absurd t
  walk→ k p g (r ∷ ps) [] t i l = absurd t
  walk→ k p g (r ∷ ps) (h ∷ hs) t zero l =
      (g, (h, subst (λ (n : ℕ). T (f n p r g h)) (sym (add-zero k)) (and_l (f k p r g h) (walk (suc k) r h ps hs) t)))
  walk→ k p g (r ∷ ps) (h ∷ hs) t (suc i) l =
      subst (λ (n : ℕ). Passed n (get_or (r ∷ ps) i 0) (get_or ps i 0)) (suc-add k i ∙ sym (add-suc k i))
      (walk→ (suc k) r h ps hs (and_r (f k p r g h) (walk (suc k) r h ps hs) t) i (le_of_suc-le-suc l))

  abbrev start : ℕ → List ℕ → List Hint → Bool
  start k [] hs = false
  start k (p ∷ ps) [] = false
  start k (p ∷ ps) (h ∷ hs) = walk k p h ps hs

  start→ : (k : ℕ) (ps : List ℕ) (hs : List Hint) → T (start k ps hs) → (i : ℕ) → suc i < length ps → Passed (k + i) (get_or ps i 0) (get_or ps (suc i) 0)
  start→ k [] hs t i l = absurd t
  start→ k (p ∷ ps) [] t i l = absurd t
  start→ k (p ∷ ps) (h ∷ hs) t i l = walk→ k p h ps hs t i (le_of_suc-le-suc l)

  -- over c entries of the light table from k on
  abbrev over_table : ℕ → ℕ → Bool
  over_table k c = start k (take c (drop k light_table)) (take c (drop (pred k) hints))

  at_cell : (k c : ℕ) → k + c ≤ 3505 → T (over_table k c) → (i j : ℕ) → k + i ≡ j → suc i < c → Passed j (light_entry j) (light_entry (j + 1))
  at_cell k c h t i j at l =
      let part = take c (drop k light_table) in
      let n : length part ≡ min c (length light_table - k) = simp (length-take, length-drop) in
      let r : suc i < length part = omega (arith, table_length) in
      let this : get_or part i 0 ≡ light_entry j = part_at k c i (omega arith) ∙ ap light_entry at in
      let after : k + suc i ≡ j + 1 = omega arith in
      let next : get_or part (suc i) 0 ≡ light_entry (j + 1) = part_at k c (suc i) r ∙ ap light_entry after in
      rw (← this, ← next, ← at) (start→ k part (take c (drop (pred k) hints)) t i r)

-- ---- places: those in the cell k are numbered from first k to before first (k + 1). Each is tested with the cell's two entries p and r, the w of the
-- first as a / 2 ^ b, what the second has more as s / 2 ^ b, and what brings the light to 64 bits
abbrev pub PlaceTest : Type 0
PlaceTest = (p r a s b j n : ℕ) → Bool

module _ (first : ℕ → ℕ) (test : PlaceTest) where
  abbrev cell : ℕ → ℕ → ℕ → Hint → Hint → Bool
  cell k p r (hint a b j) (hint z c i) = let x = a / 2 ^ (b - c) in every_in (test p r x (z - x) c j) (first k) (first (k + 1) - first k)

  -- every place of the cells between c entries from k on
  abbrev pub every_place : ℕ → ℕ → Bool
  every_place = over_table cell

  -- the place n of the cell j passed
  pub record Place (j n : ℕ) : Type 0 where
    pub a : ℕ
    pub s : ℕ
    pub b : ℕ
    pub i : ℕ
    pub passed : T (test (light_entry j) (light_entry (j + 1)) a s b i n)

  pub place_tested : (k c : ℕ) → k + c ≤ 3505 → T (every_place k c) → (j n : ℕ) → k ≤ j → j + 1 < k + c → first j ≤ n → n < first (j + 1) → Place j n
  place_tested k c h t j n from to begin end = go (at_cell cell k c h t (j - k) j (omega arith) (omega arith))
    where
      go : Passed cell j (light_entry j) (light_entry (j + 1)) → Place j n
      go (hint a b i, (hint z e y, t)) =
          let x = a / 2 ^ (b - e) in
          let f = test (light_entry j) (light_entry (j + 1)) x (z - x) e i in
          record { a = x; s = z - x; b = e; i = i; passed = chunk f (first j) (first (j + 1) - first j) t n begin (omega arith) }
