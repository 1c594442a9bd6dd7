-- The largest number of a range that passes a test.
use Rattle.std.specs.Prelude.{◌≡◌, Bool, true, false, ℕ, zero, suc, ◌+◌, ◌≤◌}

abbrev pub choose : Bool → ℕ → ℕ → ℕ
choose true a b = a
choose false a b = b

-- the largest of lo + 1 .. lo + n that passes f, else lo
unfoldable pub largest : (ℕ → Bool) → ℕ → ℕ → ℕ
largest f lo zero = lo
largest f lo (suc n) = choose (f (lo + suc n)) (lo + suc n) (largest f lo n)

-- a test that fails from where it fails once
pub record Falling (f : ℕ → Bool) : Type 0 where
  pub on : (j k : ℕ) → j ≤ k → f j ≡ false → f k ≡ false
