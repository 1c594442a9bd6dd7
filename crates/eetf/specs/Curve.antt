-- The highlight curve and the mapped components (scope, The highlight curve). Lights in units, positions in 1/897,024.
use Rattle.std.specs.Prelude.{cond, ℕ, max, min, ◌+◌, ◌-◌, ◌*◌, ◌/◌, ◌^◌, leb, ltb}
use Rattle.quantity.specs.Units.{units, thousand, last_position}
use Rattle.pq.specs.LightTable.{light_entry}
use Rattle.position.specs.Position.{light_at_in, position_of}

-- the declared peak L as it is read: whole cd/m2 from 1 to 10,000
abbrev pub peak_read : ℕ → ℕ
peak_read L = min (max L 1) 10000

-- w, the position of a peak above 1,000 cd/m2, as it is read: from that of 1,001 to that of 10,000
abbrev pub peak_position_read : ℕ → ℕ
peak_position_read w = min (max w 674504) last_position

-- floor(t − 4(w − m)³ / (27(w − t)²)) over its one denominator; from the knee on the difference is not negative
unfoldable pub spline : ℕ → ℕ → ℕ → ℕ
spline t w m = (27 * (w - t) ^ 2 * t - 4 * (w - m) ^ 3) / (27 * (w - t) ^ 2)

-- M2 under a peak above 1,000, t and w being the positions of 1,000 cd/m2 and of the peak, on a light table P: M1 itself below the knee,
-- else the light at the spline; above the peak the curve stays at its end
unfoldable pub knee_curve : (ℕ → ℕ) → ℕ → ℕ → ℕ → ℕ → ℕ
knee_curve P t w M1 m = cond (ltb (2 * min m w + w) (3 * t)) M1 (light_at_in P (spline t w (min m w)))

-- M2 of a pixel whose brightest light is M1 and whose brightest code has position m, on a light table P, w being the position of the peak L
abbrev pub bent_light_in : (ℕ → ℕ) → ℕ → ℕ → ℕ → ℕ → ℕ
bent_light_in P L w M1 m = cond (leb L 1000) (min M1 thousand) (knee_curve P (position_of thousand) w M1 m)

-- the same on the engine's light table
unfoldable pub bent_light : ℕ → ℕ → ℕ → ℕ
bent_light L M1 m = bent_light_in light_entry L (position_of (L * units)) M1 m

-- floor(c × M2 / M1); where M1 is 0, so is c, and all stay 0
unfoldable pub mapped_light : ℕ → ℕ → ℕ → ℕ
mapped_light c M1 M2 = c * M2 / M1
