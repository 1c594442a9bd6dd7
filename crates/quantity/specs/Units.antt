-- The unit in which display light is counted (scope, Light), and the ends of its range and of the positions'.
use Rattle.std.specs.Prelude.{ℕ, ◌*◌}

-- N: units of display light in one cd/m2
unfoldable pub units : ℕ
units = 16777216

-- A: 1,000 cd/m2, the brightest that the delivery shows
unfoldable pub thousand : ℕ
unfolding units
thousand = 1000 * units

-- 10,000 cd/m2, the brightest that PQ has
unfoldable pub ten_thousand : ℕ
unfolding units
ten_thousand = 10000 * units

-- the last position, that of 10,000 cd/m2: 256 to each of the light table's 3,504 steps
unfoldable pub last_position : ℕ
last_position = 897024
