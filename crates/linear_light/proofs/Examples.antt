-- Values at the borders of their classes, and lights of some, computed.
use Rattle.std.proofs.Common.{◌≡◌, true, false, pos, negsuc, refl, Ok, Err}
use lib.Ieee.{Float, nan, inf, fin, lt}
use Rattle.quantity.specs.Units.{units, ten_thousand}
use Rattle.linear_light.specs.declared.LightClass.TheVariants.{Light, Negative, TooBright}
use Rattle.refusal.specs.declared.Refusal.TheVariants.{NotFinite}
use Rattle.linear_light.specs.LinearLight.{class_of, finite, class_answer, magnitude, exact_light, whole_light}

-- −0, the smallest values beside 0, 10,000 and the next above it, 10,000 + 1/1,024
abbrev negative_zero : Float
negative_zero = fin true 0 (pos 0)

abbrev least_above : Float
least_above = fin false 1 (negsuc 148)

abbrev least_below : Float
least_below = fin true 1 (negsuc 148)

abbrev most : Float
most = fin false 625 (pos 4)

abbrev next_above : Float
next_above = fin false 10240001 (negsuc 9)

-- −0 and 10,000 are light
pub classes : (class_answer negative_zero ≡ Ok (Light negative_zero)) × (class_answer least_above ≡ Ok (Light least_above))
    × (class_answer least_below ≡ Ok (Negative least_below)) × (class_answer most ≡ Ok (Light most))
    × (class_answer next_above ≡ Ok (TooBright next_above))
unfolding class_answer finite class_of lt
classes = (refl, refl, refl, refl, refl)

-- what is infinite or no number has no class
pub refusals : (class_answer nan ≡ Err (NotFinite 0)) × (class_answer (inf false) ≡ Err (NotFinite 0)) × (class_answer (inf true) ≡ Err (NotFinite 0))
unfolding class_answer finite
refusals = (refl, refl, refl)

-- a unit, the value just below it, a half more than it; 10,000 and what lies past the ends
pub lights : (whole_light (fin false 1 (negsuc 23)) ≡ 1) × (whole_light (fin false 16777215 (negsuc 47)) ≡ 0) × (whole_light (fin false 3 (negsuc 24)) ≡ 1)
    × (whole_light negative_zero ≡ 0) × (whole_light least_above ≡ 0) × (whole_light least_below ≡ 0) × (whole_light most ≡ ten_thousand)
    × (whole_light next_above ≡ ten_thousand)
unfolding whole_light exact_light magnitude class_of lt units ten_thousand
lights = (refl, refl, refl, refl, refl, refl, refl, refl)
