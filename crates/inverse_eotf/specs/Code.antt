-- The PQ code of a display light (request 08), ten bits and narrow range: BT.2100's PQ inverse EOTF by the light table, to the nearest code. Light in units.
use Rattle.std.specs.Prelude.{List, ℕ, min, ◌-◌, ◌*◌, leb, get_or}
use Rattle.laws.specs.Largest.{largest}
use Rattle.pq.specs.LightTable.{light_entry}

-- the light from which a rounded code is D or more: P[k] half a code below D, k = 4(D − 64) − 2
abbrev pub threshold_light : ℕ → ℕ
threshold_light D = light_entry (4 * (D - 64) - 2)

-- the threshold of code D in a table of 876, whatever they are; a code below 65 or above 940 reads the nearer end
abbrev pub threshold_in : List ℕ → ℕ → ℕ
threshold_in t D = get_or t (min (D - 65) 875) 0

-- the largest code from 65 to 940 whose threshold is at most the light, else 64
unfoldable pub pq_code : ℕ → ℕ
pq_code c = largest (λ D. leb (threshold_light D) c) 64 876
