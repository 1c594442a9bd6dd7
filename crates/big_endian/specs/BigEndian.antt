-- 16-bit numbers in two bytes, high byte first (scope, Cards, rows, program): how cards hold their fields, titles their width and rows their samples.
use Rattle.std.specs.Prelude.{ℕ, ◌+◌, ◌*◌, ◌/◌, ◌%◌, List, [], ◌∷◌, get_or}

-- the number whose high byte is at place i; a byte past the end counts as 0
unfoldable pub number_at : List ℕ → ℕ → ℕ
number_at bytes i = 256 * get_or bytes i 0 + get_or bytes (i + 1) 0

-- the two bytes of a number
abbrev pub bytes_of : ℕ → List ℕ
bytes_of n = n / 256 ∷ n % 256 ∷ []
