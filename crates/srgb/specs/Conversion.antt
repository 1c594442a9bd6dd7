-- A pixel of three eight-bit sRGB values as HLG codes (request 13; document 004, formulas 3, 4, 7 and 8), stage by stage. Lights are in 1/2^40, matrices in
-- ten-thousandths; nothing is rounded between the light of a value and the scene light.
use Rattle.std.specs.Prelude.{ℕ, ◌/◌, ◌^◌, ℤ, pos, negsuc, neg_ℤ, ◌+ℤ◌, ◌*ℤ◌}
use Rattle.std.specs.Int.Signed.{le_z}
use Rattle.laws.specs.Largest.{largest}
use Rattle.quantity.specs.Component.{Component, red, green, blue, Pixel}
use Rattle.hlg_steps.specs.StepTable.{step}
use Rattle.srgb.specs.LightTable.{linear_light}

-- three numbers with a sign, of red, green and blue, or X, Y and Z in their places
abbrev pub Triple : Type 0
Triple = Component → ℤ

abbrev pub triple : ℤ → ℤ → ℤ → Triple
triple x y z red = x
triple x y z green = y
triple x y z blue = z

-- a row for each number that a matrix gives
abbrev pub Matrix : Type 0
Matrix = Component → Triple

abbrev pub times : Matrix → Triple → Triple
times m x i = m i red *ℤ x red +ℤ m i green *ℤ x green +ℤ m i blue *ℤ x blue

-- an entry of four decimals: plus 4124 is 0.4124
abbrev pub plus : ℕ → ℤ
plus n = pos n

abbrev pub minus : ℕ → ℤ
minus n = neg_ℤ (pos n)

-- from sRGB's primaries to XYZ
abbrev pub to_xyz : Matrix
to_xyz red = triple (plus 4124) (plus 3576) (plus 1805)
to_xyz green = triple (plus 2126) (plus 7152) (plus 722)
to_xyz blue = triple (plus 193) (plus 1192) (plus 9505)

-- from XYZ to BT.2020's primaries. In the last row −0.0428: document 003 prints −0.428, which would colour white, document 004 −0.04277
abbrev pub from_xyz : Matrix
from_xyz red = triple (plus 17167) (minus 3557) (minus 2534)
from_xyz green = triple (minus 6667) (plus 16165) (plus 158)
from_xyz blue = triple (plus 176) (minus 428) (plus 9421)

-- the light of BT.2020's primaries, in 1/10^8 of a unit
abbrev pub wide_lights : Triple → Triple
wide_lights l = times from_xyz (times to_xyz l)

-- the largest whole number that is at most z / n
abbrev pub rounded_down : ℤ → ℕ → ℤ
rounded_down (pos a) n = pos (a / n)
rounded_down (negsuc a) n = negsuc (a / n)

-- times 0.265, which brings white to three quarters of the HLG signal, and rounded down: scene lights
abbrev pub scene_lights : Triple → Triple
scene_lights l i = rounded_down (pos 265 *ℤ wide_lights l i) (10 ^ 11)

-- the HLG code of a scene light: the largest from 65 to 1,019 whose step is at most it, else 64
unfoldable pub oetf_code : ℤ → ℕ
oetf_code s = largest (λ d. le_z (pos (step d)) s) 64 955

-- the lights of a pixel's values
abbrev pub linear_lights : Pixel → Triple
linear_lights p i = pos (linear_light (p i))

-- its three HLG codes
unfoldable pub caption_codes : Pixel → Pixel
caption_codes p i = oetf_code (scene_lights (linear_lights p) i)
