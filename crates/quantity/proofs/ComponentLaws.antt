-- The brightest of three numbers: it is one of them, none exceeds it, and where others grow with them it gives theirs.
use mathlib.Core.Path.{◌≡◌, sym, ap}
use Prim.Native.Nat.{ℕ, max, ◌≤◌}
use native.Mathlib.Nat.{le_trans, le_of_eq, le_antisymm}
use native.Mathlib.Decide.{dec_le}
use native.Mathlib.Omega.{arith}
use Rattle.quantity.specs.Component.{Component, red, green, blue, Pixel, brightest}

pub brightest_at : (p : Pixel) → (i : Component) × (p i ≡ brightest p)
brightest_at p = go (dec_le (p green) (p red)) (dec_le (p blue) (max (p red) (p green)))
  where
    go : Dec (p green ≤ p red) → Dec (p blue ≤ max (p red) (p green)) → (i : Component) × (p i ≡ brightest p)
    go (yes a) (yes b) = (red, omega arith)
    go (no a) (yes b) = (green, omega arith)
    go d (no b) = (blue, omega arith)

pub each_le : (p : Pixel) (i : Component) → p i ≤ brightest p
each_le p red = omega arith
each_le p green = omega arith
each_le p blue = omega arith

pub brightest_of : (f : ℕ → ℕ) → ((a b : ℕ) → a ≤ b → f a ≤ f b) → (p : Pixel) → brightest (λ i. f (p i)) ≡ f (brightest p)
brightest_of f grows p =
    let top = brightest_at p in
    let most = brightest_at (λ i. f (p i)) in
    le_antisymm (le_trans (le_of_eq (sym most.1)) (grows (p most.0) (brightest p) (each_le p most.0)))
    (le_trans (le_of_eq (ap f (sym top.1))) (each_le (λ i. f (p i)) top.0))
