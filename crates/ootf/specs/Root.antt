-- Bounds of the fifth root of a luminance, by which a display light is reached or missed in a few products. No public call cites them.
use Rattle.std.specs.Prelude.{ℕ, ◌*◌, ◌^◌, ◌≤◌}

-- 5¹¹, what A⁵ leaves beside a power of 2 when 10,000 is cancelled
abbrev pub fives : ℕ
fives = 48828125

-- g is at most, or h at least, the fifth root of 2⁹⁶ × 5¹¹ × Y
unfoldable pub LowRoot : ℕ → ℕ → Type 0
LowRoot g Y = g ^ 5 ≤ 2 ^ 96 * fives * Y

unfoldable pub HighRoot : ℕ → ℕ → Type 0
HighRoot h Y = 2 ^ 96 * fives * Y ≤ h ^ 5
