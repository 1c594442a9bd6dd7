-- When a number is a quotient rounded down.
use Rattle.std.specs.Prelude.{ℕ, ◌+◌, ◌*◌, Bool, ◌&&◌, nat_le, nat_lt}

-- q is n / m rounded down: q times m, and a rest below m, make n. No number is one over 0
unfoldable pub is_quotient : ℕ → ℕ → ℕ → Bool
is_quotient q n m = nat_le (q * m) n && nat_lt n (q * m + m)
