-- Bounds of the sixth root of a luminance, by which a step is reached or missed in a few products. No public call cites them.
use Rattle.std.specs.Prelude.{ℕ, ◌+◌, ◌*◌, ◌^◌, ◌≤◌, ◌<◌}

-- 5¹¹, what A⁵ leaves beside a power of 2 when 10,000 is cancelled
abbrev pub fives : ℕ
fives = 48828125

-- g is at most, or h at least, the sixth root of 2²¹¹ / (5¹¹ Y)
unfoldable pub LowRoot : ℕ → ℕ → Type 0
LowRoot g Y = g ^ 6 * fives * Y ≤ 2 ^ 211

unfoldable pub HighRoot : ℕ → ℕ → Type 0
HighRoot h Y = 2 ^ 211 ≤ h ^ 6 * fives * Y

-- g and g + 2 enclose the root, or g is 0 where none was found
pub record IsRoot (g Y : ℕ) : Type 0 where
  pub range : g + 2 ≤ 2 ^ 30
  pub low : 0 < g → LowRoot g Y
  pub high : 0 < g → HighRoot (g + 2) Y
