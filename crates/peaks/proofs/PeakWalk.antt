-- The walk over a part of the light table and its hints, as a fact at each peak it passes; such parts are joined.
use mathlib.Core.Path.{◌≡◌, sym, ap, ◌∙◌, subst}
use mathlib.Core.Bool.{Bool, false}
use mathlib.Core.List.{List, [], ◌∷◌}
use Prim.Native.Nat.{ℕ, suc, pred, ◌+◌, ◌*◌, ◌-◌, ◌^◌, ◌≤◌, ◌<◌}
use native.Mathlib.Nat.{add-zero}
use native.Mathlib.Decide.{dec_le}
use native.Mathlib.Omega.{arith}
use lib.Dec.{T}
use lib.ListN.{length, get_or, take, drop}
use Rattle.quantity.specs.Units.{units}
use Rattle.pq.specs.LightTable.{light_table, light_entry}
use Rattle.position.specs.Position.{position_of}
use Rattle.pq.proofs.TableHints.{hints}
use Rattle.pq.proofs.EntryLaws.{part_at}
use Rattle.pq.proofs.PqTests.{Hint, hint}
use Rattle.peaks.proofs.PeakTests.{walk, walk→, Found, Between}
use Rattle.position.proofs.PositionLaws.{in_cell_lem}

-- the walk over the cells that two lists give, from the cell k and the peak m to the peak e - 1
abbrev pub start : ℕ → ℕ → ℕ → List ℕ → List Hint → Bool
start e k m [] hs = false
start e k m (p ∷ ps) [] = false
start e k m (p ∷ ps) (hint a b j ∷ hs) = walk e k m p (a * 2 ^ (64 - b)) j ps hs

start→ : (f : ℕ → ℕ) (e k m : ℕ) (ps : List ℕ) (hs : List Hint) → T (start e k m ps hs)
    → ((i : ℕ) → i < length ps → get_or ps i 0 ≡ f (k + i)) → (i : ℕ) → m ≤ i → i < e → Found f i
start→ f e k m [] hs t h i l r = absurd t
start→ f e k m (p ∷ ps) [] t h i l r = absurd t
start→ f e k m (p ∷ ps) (hint a b j ∷ hs) t h i l r =
    walk→ f e k m p (a * 2 ^ (64 - b)) j ps hs t (h 0 (omega arith) ∙ ap f (add-zero k)) (λ d s. h (suc d) (omega arith) ∙ ap f (omega arith)) i l r

-- the peaks from m to e - 1, tested over c cells from k on
abbrev pub Peaks : ℕ → ℕ → Type 0
Peaks m e = (i : ℕ) → m ≤ i → i < e → Between (i * units) (position_of (i * units))

abbrev pub tested : ℕ → ℕ → ℕ → ℕ → Bool
tested k c m e = start e k m (take c (drop k light_table)) (take c (drop (pred k) hints))

pub chunk : (k c m e : ℕ) → T (tested k c m e) → Peaks m e
chunk k c m e t i l r = ends i (start→ light_entry e k m (take c (drop k light_table)) (take c (drop (pred k) hints)) t (part_at k c) i l r)
  where
    ends : (i : ℕ) → Found light_entry i → Between (i * units) (position_of (i * units))
    ends i x =
        let y = x.1 in
        subst (Between (i * units)) (sym (in_cell_lem x.0 (i * units) y.range y.from y.to)) y.between

-- two ranges that meet
pub join : (m n e : ℕ) → Peaks m n → Peaks n e → Peaks m e
join m n e a b i l r = go (dec_le n i)
  where
    go : Dec (n ≤ i) → Between (i * units) (position_of (i * units))
    go (yes x) = b i x r
    go (no x) = a i l (omega arith)
