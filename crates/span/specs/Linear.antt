-- What the private functions on lights that have no code hold. No public call cites it. Lights in units, positions in 1/897,024; the peak is in whole
-- cd/m2.
use Rattle.std.specs.Prelude.{◌≡◌, ℕ, ◌+◌, ◌-◌, ◌*◌, ◌/◌, ◌<◌, ◌≤◌}
use Rattle.quantity.specs.Units.{units, thousand}
use Rattle.quantity.specs.Component.{Pixel, brightest}
use Rattle.pq.specs.LightTable.{light_entry}
use Rattle.position.specs.Position.{light_at, position_of}
use Rattle.pixel.specs.Conversion.{mapped_of}

-- a light stands in the cell k of the light table, from its entry to below the next
pub record InCell (k l : ℕ) : Type 0 where
  pub index : k < 3504
  pub from : light_entry k ≤ l
  pub to : l < light_entry (k + 1)

-- the light at the knee of a peak with the position w: at the least position m with 3t ≤ 2m + w
unfoldable pub knee_light : ℕ → ℕ
knee_light w = light_at ((3 * position_of thousand + 1 - w) / 2)

-- w is the position of the peak, and knee the light at its knee
pub record IsCurve (peak w knee : ℕ) : Type 0 where
  pub position : w ≡ position_of (peak * units)
  pub start : knee ≡ knee_light w

-- three lights mapped
abbrev pub mapped_lights : ℕ → Pixel → Pixel
mapped_lights peak x = mapped_of peak x (position_of (brightest x))
