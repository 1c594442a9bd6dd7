-- Laws of codes that are found near a root: by two steps, and by a search.
use Rattle.std.proofs.Common.{◌≡◌, ℕ, ◌+◌, ◌<◌, ◌≤◌, ◌⊎◌, inl, inr, Option, Some, None, IfSome, MatchOption, nat_le, true, arith}
use borrow.Author.Tests.{leb-true}
use Rattle.laws.specs.Largest.{largest}
use Rattle.laws.proofs.LargestLaws.{found}
use Rattle.hlg_steps.specs.StepTable.{step_table, step}
use Rattle.hlg.specs.Settled.{Settled}

pub settled_by : (s u d : ℕ) → (64 < d) × (d < 1019) × (step d ≤ s) × (u < step (d + 1)) → (64 < d) × Settled step_table s u 64 1020 d
unfolding step
settled_by s u d h = (h.0, record { from = omega (arith, h.0); to = omega (arith, h.1); reached = λ k. h.2; missed = λ k. h.3 })

pub settled_search : (s u d : ℕ) → d ≡ largest (λ k. nat_le (step k) s) 64 955 → (d < 1019 → u < step (d + 1)) → Settled step_table s u 64 1020 d
unfolding step
settled_search s u d e next =
    let f = found (λ k. nat_le (step k) s) 64 955 in
    record {
      from = omega (arith, e, f.from);
      to = omega (arith, e, f.to);
      reached = λ k. rw e (reached f.passes (rw e at k));
      missed = λ k. next (omega arith);
    }
  where
    reached : {d : ℕ} → (d ≡ 64) ⊎ (nat_le (step d) s ≡ true) → 64 < d → step d ≤ s
    reached (inl z) k = absurd (omega arith)
    reached (inr t) k = leb-true _ _ t

-- what holds of a value where there is one
pub if_some : {A : Type 0} (P Q : A → Type 0) (o : Option A) → ((a : A) → P a → Q a) → IfSome o P → IfSome o Q
if_some P Q None f h = h
if_some P Q (Some a) f h = f a h

pub either : {A X G : Type 0} (P S : A → Type 0) (o : Option A) → MatchOption o X P → IfSome o S → (X → G) → ((a : A) → S a → P a → G) → G
either P S None m h none some = none m
either P S (Some a) m h none some = some a h m
