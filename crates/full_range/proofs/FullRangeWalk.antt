-- The walks over the light table as a fact at each code of their cells; and codes that have witnesses of their own.
use mathlib.Core.Path.{sym, ◌∙◌, subst}
use mathlib.Core.Bool.{Bool, true, ◌&&◌}
use mathlib.Core.List.{List, [], ◌∷◌}
use Prim.Native.Nat.{ℕ, zero, suc, ◌+◌, ◌/◌, ◌≤◌, ◌<◌}
use native.Mathlib.Nat.{add-zero, add-suc, suc-add, not-suc-le-zero, le_of_suc-le-suc}
use lib.Dec.{T}
use lib.Ieee.Fits.{and_l, and_r}
use lib.ListN.{length}
use Rattle.pq.proofs.PqTests.{Hint}
use Rattle.pq.proofs.CellWalk.{place_tested}
use Rattle.position.specs.Position.{light_at}
use Rattle.full_range.proofs.FullRangeTests.{Held, holds, holds→, place, first_in, one, one→, every_code}

-- the codes of cells that passed, top being the last code of the depth
pub walked : (top k c : ℕ) → k + c ≤ 3505 → T (every_code top k c) → (n : ℕ) → k ≤ place top n / 256 → place top n / 256 + 1 < k + c
    → first_in top (place top n / 256) ≤ n → n < first_in top (place top n / 256 + 1) → Held (light_at (place top n)) (place top n)
unfolding light_at
walked top k c h t n from to begin end =
    let x = place_tested (first_in top) (one top) k c h t (place top n / 256) n from to begin end in
    one→ top _ _ x.a x.s x.b x.i n x.passed

-- ---- the codes from n on, each with two witnesses of its own
abbrev pub each : ℕ → ℕ → List (Hint × Hint) → Bool
each top n [] = true
each top n (w ∷ ws) = holds (light_at (place top n)) (place top n) w.0 w.1 && each top (suc n) ws

pub each→ : (top n : ℕ) (ws : List (Hint × Hint)) → T (each top n ws) → (i : ℕ) → i < length ws → Held (light_at (place top (n + i))) (place top (n + i))
each→ top n [] t i l = absurd (not-suc-le-zero l)
each→ top n (w ∷ ws) t zero l =
    subst (λ (m : ℕ). Held (light_at (place top m)) (place top m)) (sym (add-zero n))
    (holds→ _ _ w.0 w.1 (and_l (holds (light_at (place top n)) (place top n) w.0 w.1) (each top (suc n) ws) t))
each→ top n (w ∷ ws) t (suc i) l =
    subst (λ (m : ℕ). Held (light_at (place top m)) (place top m)) (suc-add n i ∙ sym (add-suc n i))
    (each→ top (suc n) ws (and_r (holds (light_at (place top n)) (place top n) w.0 w.1) (each top (suc n) ws) t) i (le_of_suc-le-suc l))
