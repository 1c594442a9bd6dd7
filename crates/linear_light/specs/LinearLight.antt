-- Display light given as a 32-bit float in cd/m2 (request 11; document 001, section 7.13): the class of a value, what it counts as, and its light. A value
-- is what the 32 bits stand for: `fin s m e` is m × 2^e, negative where s is true, beside infinities and what is no number.
use Rattle.std.specs.Prelude.{ℕ, ◌*◌, ◌/◌, ◌^◌, Bool, true, false, cond, pos, Float, Result, Ok, Err}
use Rattle.std.specs.Float.{nan, inf, fin}
use Rattle.std.specs.Float.Ieee.{up, down, lt}
use Rattle.quantity.specs.Units.{units}
use Rattle.linear_light.specs.declared.LightClass.{LightClass}
use Rattle.linear_light.specs.declared.LightClass.TheVariants.{Light, Negative, TooBright}
use Rattle.refusal.specs.declared.Refusal.{Refusal}
use Rattle.refusal.specs.declared.Refusal.TheVariants.{NotFinite}

-- 0 and 10,000 cd/m2; 10,000 is 625 × 2^4
abbrev pub no_light : Float
no_light = fin false 0 (pos 0)

abbrev pub most_light : Float
most_light = fin false 625 (pos 4)

-- below 0 a value is negative, above 10,000 it is too bright; −0 is not below 0
unfoldable pub class_of : Float → LightClass
class_of x = cond (lt x no_light) (Negative x) (cond (lt most_light x) (TooBright x) (Light x))

-- refusal 16: a value that is infinite or no number
unfoldable pub finite : Float → Bool
finite nan = false
finite (inf s) = false
finite (fin s m e) = true

-- what classing one value answers: its class with the value as given, or the refusal, whose place is 0
unfoldable pub class_answer : Float → Result LightClass Refusal
class_answer x = cond (finite x) (Ok (class_of x)) (Err (NotFinite 0))

-- the value that a class counts as
abbrev pub counted_as : LightClass → Float
counted_as (Light x) = x
counted_as (Negative x) = no_light
counted_as (TooBright x) = most_light

-- the size of a value in 1/2^149 cd/m2, of which every 32-bit float is a whole number; what is no number has none
unfoldable pub magnitude : Float → ℕ
magnitude nan = 0
magnitude (inf s) = 0
magnitude (fin s m e) = m * up e * 2 ^ 149 / down e

-- the light of a value as counted, in 1/2^149 of a unit: its exact product with N
unfoldable pub exact_light : Float → ℕ
exact_light x = magnitude (counted_as (class_of x)) * units

-- and in whole units, rounded down
unfoldable pub whole_light : Float → ℕ
whole_light x = exact_light x / 2 ^ 149
