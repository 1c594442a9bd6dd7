-- Laws of `hlg_code`: its range, what it reaches and misses, black, and its growth; from the laws of `largest` and of `reaches`.
use mathlib.Core.Path.{◌≡◌}
use mathlib.Core.Logic.{◌⊎◌, inl, inr}
use mathlib.Core.Bool.{true}
use Prim.Native.Nat.{ℕ, ◌≤◌, ◌<◌}
use native.Mathlib.Nat.{lt_irrefl}
use native.Mathlib.Omega.{arith}
use Rattle.laws.specs.Largest.{Falling}
use Rattle.laws.proofs.LargestLaws.{Found, found, passes_le, grows}
use Rattle.hlg_steps.specs.StepTable.{step}
use Rattle.hlg_steps.proofs.StepLaws.{steps_grow}
use Rattle.hlg.specs.Code.{luminance, reaches, hlg_code}
use Rattle.hlg.proofs.ReachLaws.{Reached, reached, reaching, missed_above, brighter, brighter_grey}

-- steps grow, so a code that is missed leaves all above it
pub code_falls : (Y R : ℕ) → Falling (λ d. reaches (step d) Y R)
code_falls Y R = record { on = λ c d h e. missed_above (step c) (step d) Y R (steps_grow c d h) e }

code_found : (Y R : ℕ) → Found (λ d. reaches (step d) Y R) 64 955 (hlg_code Y R)
unfolding hlg_code
code_found Y R = found (λ d. reaches (step d) Y R) 64 955

pub code_from : (Y R : ℕ) → 64 ≤ hlg_code Y R
code_from Y R = (code_found Y R).from

pub code_to : (Y R : ℕ) → hlg_code Y R ≤ 1019
code_to Y R = (code_found Y R).to

-- a code above 64 is reached
pub code_reached : (Y R : ℕ) → 64 < hlg_code Y R → Reached (step (hlg_code Y R)) Y R
code_reached Y R h = go (code_found Y R).passes
  where
    go : (hlg_code Y R ≡ 64) ⊎ (reaches (step (hlg_code Y R)) Y R ≡ true) → Reached (step (hlg_code Y R)) Y R
    go (inl e) = absurd (omega arith)
    go (inr t) = reached (step (hlg_code Y R)) Y R t

-- a code that is reached is at most the code, so none above it is
pub reached_le : (Y R d : ℕ) → d ≤ 1019 → Reached (step d) Y R → d ≤ hlg_code Y R
unfolding hlg_code
reached_le Y R d h k = passes_le (λ e. reaches (step e) Y R) 64 955 d h (reaching (step d) Y R k)

-- a component without light has the code of black, whatever the others are
pub code_black : (Y : ℕ) → hlg_code Y 0 ≡ 64
code_black Y = go (code_found Y 0).passes
  where
    go : (hlg_code Y 0 ≡ 64) ⊎ (reaches (step (hlg_code Y 0)) Y 0 ≡ true) → hlg_code Y 0 ≡ 64
    go (inl e) = e
    go (inr t) = absurd (lt_irrefl 0 (reached (step (hlg_code Y 0)) Y 0 t).some)

-- ---- order: a component that reaches what another does has no smaller code
code_le : (Y R Y' R' : ℕ) → ((T : ℕ) → Reached T Y R → Reached T Y' R') → hlg_code Y R ≤ hlg_code Y' R'
unfolding hlg_code
code_le Y R Y' R' f =
    grows (λ d. reaches (step d) Y R) (λ d. reaches (step d) Y' R') 64 955
    (λ d t. reaching (step d) Y' R' (f (step d) (reached (step d) Y R t)))

pub code_grows : (Y R R' : ℕ) → R ≤ R' → hlg_code Y R ≤ hlg_code Y R'
code_grows Y R R' h = code_le Y R Y R' (λ T. brighter h)

pub grey_grows : (r r' : ℕ) → r ≤ r' → hlg_code (luminance r r r) r ≤ hlg_code (luminance r' r' r') r'
grey_grows r r' h = code_le (luminance r r r) r (luminance r' r' r') r' (λ T. brighter_grey h)
