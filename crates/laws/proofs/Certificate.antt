-- A polynomial inequality from hypotheses a ≤ b, each weighed by a polynomial factor; the rest is compared coefficient by coefficient.
-- As: cert 4 (λ a b c d. (a ⊑ b by c) ∷ (c ⊑ d by b) ∷ [] ⊢ a ⊗ c ≼ b ⊗ d) tt
use mathlib.Core.List.{List, [], ◌∷◌}
use mathlib.Core.Bool.{Bool}
use Prim.Native.Nat.{ℕ, zero, suc, ◌≤◌}
use native.Mathlib.Nat.{le_refl, mul-le-mul_left, add-le-add}
use native.Mathlib.Omega.{arith}
use lib.Dec.{T}
use Rattle.laws.proofs.Polynomial.{E, var, #◌, ◌⊕◌, ◌⊗◌, val, below, norm, le_sound, All, all, ◌≼◌}

infix 60 ◌⊑◌by◌
pub data Given : Type 0 where
  ◌⊑◌by◌ : E → E → E → Given

infix 40 ◌⊢◌≼◌
pub data Claim : Type 0 where
  ◌⊢◌≼◌ : List Given → E → E → Claim

abbrev pub lows : List Given → E
lows [] = # 0
lows ((a ⊑ b by m) ∷ hs) = m ⊗ a ⊕ lows hs

abbrev pub highs : List Given → E
highs [] = # 0
highs ((a ⊑ b by m) ∷ hs) = m ⊗ b ⊕ highs hs

abbrev pub Imp : ℕ → List Given → List ℕ → Type 0 → Type 0
Imp n [] ρ G = G
Imp n ((a ⊑ b by m) ∷ hs) ρ G = val n a ρ ≤ val n b ρ → Imp n hs ρ G

abbrev pub Claimed : ℕ → Type 0
Claimed zero = Claim
Claimed (suc n) = E → Claimed n

abbrev pub claim : (n i : ℕ) → Claimed n → Claim
claim zero i q = q
claim (suc n) i f = claim n (suc i) (f (var i))

abbrev pub Says : ℕ → Claim → List ℕ → Type 0
Says n (hs ⊢ l ≼ r) ρ = Imp n hs ρ (val n l ρ ≤ val n r ρ)

abbrev pub holds : ℕ → Claim → Bool
holds n (hs ⊢ l ≼ r) = below n (norm n (l ⊕ highs hs)) (norm n (r ⊕ lows hs))

gather : (n : ℕ) (hs : List Given) (ρ : List ℕ) (G : Type 0) → (val n (lows hs) ρ ≤ val n (highs hs) ρ → G) → Imp n hs ρ G
gather n [] ρ G f = f (le_refl 0)
gather n ((a ⊑ b by m) ∷ hs) ρ G f = λ h. gather n hs ρ G (λ k. f (add-le-add (mul-le-mul_left (val n m ρ) h) k))

says : (n : ℕ) (c : Claim) (ρ : List ℕ) → T (holds n c) → Says n c ρ
says n (hs ⊢ l ≼ r) ρ t = gather n hs ρ (val n l ρ ≤ val n r ρ) (λ k. let h = le_sound n (l ⊕ highs hs) (r ⊕ lows hs) ρ t in omega (arith, h, k))

pub cert : (n : ℕ) (f : Claimed n) → T (holds n (claim n 0 f)) → All n (Says n (claim n 0 f))
cert n f t = all n (Says n (claim n 0 f)) (λ ρ. says n (claim n 0 f) ρ t)
