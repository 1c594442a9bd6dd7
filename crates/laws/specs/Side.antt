-- The two sides on which a fraction can enclose a value. A stage is said once for both.
use Rattle.std.specs.Prelude.{ℕ, ◌*◌, ◌≤◌}
use Rattle.laws.specs.Fraction.{Fraction}

-- a lower or an upper fraction
pub data Side : Type 0 where
  low high : Side

-- where a stage falls as an input grows, that input's unfavourable fraction is on the other side
abbrev pub other : Side → Side
other low = high
other high = low

-- a is at most b, or at least b
abbrev pub At : Side → ℕ → ℕ → Type 0
At low a b = a ≤ b
At high a b = b ≤ a

-- the same of fractions
abbrev pub Bounds : Side → Fraction → Fraction → Type 0
Bounds s p q = At s (p.num * q.den) (q.num * p.den)
