-- Positions and their lights (scope, Light: position). Light in units of 1/16,777,216 cd/m2, positions in 1/897,024 of the PQ signal.
-- A light is read off a table given by its entries, P, so that a call on any table can be said too; the engine's is `light_entry`.
use Rattle.std.specs.Prelude.{ℕ, ◌+◌, ◌-◌, ◌*◌, ◌/◌, ◌%◌, ◌≤◌, leb}
use Rattle.laws.specs.Largest.{largest}
use Rattle.quantity.specs.Units.{last_position}
use Rattle.pq.specs.LightTable.{light_entry}

-- P[k] + floor((P[k+1] − P[k]) × f / 256), k = q div 256 and f = q mod 256
abbrev pub light_at_in : (ℕ → ℕ) → ℕ → ℕ
light_at_in P q = let k = q / 256 in P k + (P (k + 1) - P k) * (q % 256) / 256

-- the light at a position; past the last position that of the last, since P reads its last entry there
unfoldable pub light_at : ℕ → ℕ
light_at q = light_at_in light_entry q

-- the position of a light: the largest whose light doesn't exceed it
unfoldable pub position_of : ℕ → ℕ
position_of l = largest (λ q. leb (light_at q) l) 0 last_position

-- the same said as a property
pub record IsPosition (l q : ℕ) : Type 0 where
  pub range : q ≤ last_position
  pub reached : light_at q ≤ l
  pub largest : (p : ℕ) → p ≤ last_position → light_at p ≤ l → p ≤ q
