-- A pixel of three values in cd/m2, converted (request 11): m is the position of its largest light, and all that follows is as for any three lights.
-- Lights in units, positions in 1/897,024; the peak is in whole cd/m2.
use Rattle.std.specs.Prelude.{ℕ, Float}
use Rattle.quantity.specs.Component.{Component, red, green, blue, Pixel, brightest}
use Rattle.position.specs.Position.{position_of}
use Rattle.pixel.specs.Conversion.{mapped_of, code_of}
use Rattle.linear_light.specs.LinearLight.{whole_light}

-- the values of a pixel
abbrev pub Values : Type 0
Values = Component → Float

abbrev pub values : Float → Float → Float → Values
values r g b red = r
values r g b green = g
values r g b blue = b

-- their lights
abbrev pub lights_of : Values → Pixel
lights_of p i = whole_light (p i)

-- m, the position of the largest of them
abbrev pub position_of_brightest : Values → ℕ
position_of_brightest p = position_of (brightest (lights_of p))

-- the mapped components and the HLG codes
unfoldable pub linear_mapped : ℕ → Values → Pixel
linear_mapped peak p = mapped_of peak (lights_of p) (position_of_brightest p)

unfoldable pub linear_code : ℕ → Values → Pixel
unfolding linear_mapped
linear_code peak p = code_of peak (lights_of p) (position_of_brightest p)
