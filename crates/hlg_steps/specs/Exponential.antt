-- Numbers compared with the exponential by its partial sums (scope, HLG code: exponential branch).
use Rattle.std.specs.Prelude.{ℕ, zero, suc, ◌+◌, ◌*◌, ◌^◌, ◌≤◌}
use Rattle.laws.specs.Side.{Side, low, high}

-- 1 + y + y²/2 + .. + yⁿ/n! at y = p / q is sum_num p q n / sum_den q n
unfoldable pub sum_den : ℕ → ℕ → ℕ
sum_den q zero = 1
sum_den q (suc n) = sum_den q n * (suc n * q)

unfoldable pub sum_num : ℕ → ℕ → ℕ → ℕ
sum_num p q zero = 1
sum_num p q (suc n) = sum_num p q n * (suc n * q) + p ^ suc n

-- x / z against exp(p / q): at most it where one of the partial sums reaches x / z, at least it where x / z reaches all of them
unfoldable pub Exponential : Side → ℕ → ℕ → ℕ → ℕ → Type 0
Exponential low x z p q = (n : ℕ) × (x * sum_den q n ≤ sum_num p q n * z)
Exponential high x z p q = (n : ℕ) → sum_num p q n * z ≤ x * sum_den q n
