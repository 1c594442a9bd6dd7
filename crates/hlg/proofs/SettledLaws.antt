-- Laws of `Settled`: how a search keeps it, and that on the steps it is the HLG code.
use mathlib.Core.Path.{◌≡◌, subst}
use mathlib.Core.Logic.{◌⊎◌, inl, inr}
use mathlib.Core.Bool.{true, false}
use mathlib.Core.List.{List}
use Prim.Native.Nat.{ℕ, zero, suc, ◌+◌, ◌*◌, ◌^◌, ◌≤◌, ◌<◌}
use native.Mathlib.Nat.{le_antisymm, mul-le-mul}
use native.Mathlib.Decide.{dec_le}
use native.Mathlib.Omega.{arith}
use Rattle.laws.proofs.LargestLaws.{found_is}
use Rattle.quantity.specs.Units.{units, thousand}
use Rattle.hlg_steps.specs.StepTable.{step_table, step}
use Rattle.hlg_steps.proofs.StepLaws.{step_pos}
use Rattle.hlg.specs.Code.{reaches, hlg_code}
use Rattle.hlg.specs.Root.{LowRoot, HighRoot}
use Rattle.hlg.specs.Settled.{step_in, Settled}
use Rattle.hlg.proofs.CodeLaws.{code_falls}
use Rattle.hlg.proofs.RootLaws.{reached_by_root, missed_by_root}

-- ---- a search
pub only : (ts : List ℕ) (s u lo hi : ℕ) → lo < hi → hi ≤ lo + 1 → Settled ts s u lo hi lo
only ts s u lo hi l h = record { from = omega arith; to = l; reached = λ k. absurd (omega arith); missed = λ k. absurd (omega arith) }

-- a middle that is reached leaves the codes from it on, one that is missed those below it
pub upper : (ts : List ℕ) (s u lo mid hi d : ℕ) → lo ≤ mid → step_in ts mid ≤ s → Settled ts s u mid hi d → Settled ts s u lo hi d
upper ts s u lo mid hi d l r h =
    record { from = omega (arith, h.from); to = h.to; reached = λ k. go (dec_le d mid); missed = h.missed }
  where
    go : Dec (d ≤ mid) → step_in ts d ≤ s
    go (yes p) = subst (λ (x : ℕ). step_in ts x ≤ s) (le_antisymm h.from p) r
    go (no p) = h.reached (omega arith)

pub lower : (ts : List ℕ) (s u lo mid hi d : ℕ) → mid ≤ hi → u < step_in ts mid → Settled ts s u lo mid d → Settled ts s u lo hi d
lower ts s u lo mid hi d l r h =
    record { from = h.from; to = omega (arith, h.to); reached = h.reached; missed = λ k. go (dec_le mid (d + 1)) }
  where
    go : Dec (mid ≤ d + 1) → u < step_in ts (d + 1)
    go (yes p) = let e : mid ≡ d + 1 = omega (arith, h.to) in subst (λ (x : ℕ). u < step_in ts x) e r
    go (no p) = h.missed (omega arith)

-- ---- the code, where s and u enclose the scene light of a component r: in units of 2¹⁷ it is r times the root
module _ (y r g s u d : ℕ) (low : LowRoot g y) (high : HighRoot (g + 2) y) (under : s * 131072 ≤ r * g) (over : r * (g + 2) < (u + 1) * 131072)
    (h : Settled step_table s u 64 1020 d) where
  reached_at : 0 < r → step_in step_table d ≤ s → reaches (step d) y r ≡ true
  unfolding step
  reached_at some l = reached_by_root (step_in step_table d) y r g some low (omega arith)

  missed_at : u < step_in step_table (d + 1) → reaches (step (d + 1)) y r ≡ false
  unfolding step
  missed_at l = missed_by_root (step_in step_table (d + 1)) y r (g + 2) high (omega arith)

  passes : 0 < r → Dec (d ≤ 64) → (d ≡ 64) ⊎ (reaches (step d) y r ≡ true)
  passes some (yes p) = inl (le_antisymm p h.from)
  passes some (no p) = inr (reached_at some (h.reached (omega arith)))

  settled_code : 0 < r → d ≡ hlg_code y r
  unfolding hlg_code
  settled_code some =
      found_is (λ e. reaches (step e) y r) 64 955 d
      (record {
        from = h.from;
        to = omega (arith, h.to);
        passes = passes some (dec_le d 64);
        last = λ k l m. (code_falls y r).on (d + 1) k (omega arith) (missed_at (h.missed (omega arith)));
      })

  -- a component that reaches a step has light
  lit_by_step : 64 < d → 0 < r
  unfolding step
  lit_by_step p = lit (step_in step_table d) r g s (step_pos d) (h.reached p) under
    where
      lit : (t r g s : ℕ) → 0 < t → t ≤ s → s * 131072 ≤ r * g → 0 < r
      lit t zero g s p h l = absurd (omega arith)
      lit t (suc r) g s p h l = omega arith

-- the same on a lent table that holds the steps: of a component with light, or by a code that is reached
pub lent_code : (ts : List ℕ) (y r g s u d : ℕ) → ts ≡ step_table → LowRoot g y → HighRoot (g + 2) y → s * 131072 ≤ r * g → r * (g + 2) < (u + 1) * 131072
    → Settled ts s u 64 1020 d → 0 < r → d ≡ hlg_code y r
lent_code ts y r g s u d e low high under over h = settled_code y r g s u d low high under over (subst (λ (l : List ℕ). Settled l s u 64 1020 d) e h)

pub hinted_code : (ts : List ℕ) (y r g s u d : ℕ) → ts ≡ step_table → LowRoot g y → HighRoot (g + 2) y → s * 131072 ≤ r * g → r * (g + 2) < (u + 1) * 131072
    → (64 < d) × Settled ts s u 64 1020 d → d ≡ hlg_code y r
hinted_code ts y r g s u d e low high under over h =
    let k = subst (λ (l : List ℕ). Settled l s u 64 1020 d) e h.1 in
    settled_code y r g s u d low high under over k (lit_by_step y r g s u d low high under over k h.0)

-- the upper product fits a word
pub room : (r g : ℕ) → r ≤ thousand → g + 2 ≤ 2 ^ 30 → r * g + 2 * r < 2 ^ 64
unfolding thousand units
room r g hr hg = omega (arith, mul-le-mul {n₁ = r} {m₁ = g + 2} {n₂ = thousand} {m₂ = 2 ^ 30} hr hg)
