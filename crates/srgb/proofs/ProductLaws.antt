-- Both matrices as one: their product has no negative entry, so that no light of BT.2020's primaries is negative, for any three lights. Its entries are in
-- 1/10^8.
use mathlib.Core.Path.{◌≡◌, sym, ◌∙◌, ap}
use Prim.Native.Nat.{ℕ, ◌+◌, ◌-◌, ◌*◌, ◌/◌, ◌≤◌}
use native.Mathlib.Omega.{arith}
use lib.IntN.{ℤ, pos, neg_ℤ, nat_abs, ◌+ℤ◌, +ℤ_comm, +ℤ_assoc, +ℤ-neg_ℤ_cancel, neg_ℤ-+ℤ}
use Rattle.quantity.specs.Component.{Component, red, green, blue, Pixel, pixel}
use Rattle.srgb.specs.Conversion.{Matrix, to_xyz, from_xyz, wide_lights, scene_lights}

-- the product's rows
abbrev pub product : Component → Pixel
product red = pixel 62745464 32929000 4332611
product green = pixel 6902576 91959224 1138985
product blue = pixel 1634149 8798152 89555269

-- three lights by their shares
abbrev pub mixed : Pixel → Pixel → ℕ
mixed share l = share red * l red + share green * l green + share blue * l blue

-- a difference that is not negative
less : (a b : ℕ) → b ≤ a → pos a +ℤ neg_ℤ (pos b) ≡ pos (a - b)
less a b h =
    let e : a ≡ a - b + b = omega arith in
    ap (λ (n : ℕ). pos n +ℤ neg_ℤ (pos b)) e ∙ +ℤ-neg_ℤ_cancel (pos (a - b)) (pos b)

-- and with the part that is taken away in any place
taken_first : (a b c n : ℕ) → b + c ≡ a + n → neg_ℤ (pos a) +ℤ pos b +ℤ pos c ≡ pos n
taken_first a b c n e =
    ap (λ (z : ℤ). z +ℤ pos c) (+ℤ_comm (neg_ℤ (pos a)) (pos b))
    ∙ +ℤ_assoc (pos b) (neg_ℤ (pos a)) (pos c)
    ∙ ap (λ (z : ℤ). pos b +ℤ z) (+ℤ_comm (neg_ℤ (pos a)) (pos c))
    ∙ sym (+ℤ_assoc (pos b) (pos c) (neg_ℤ (pos a)))
    ∙ less (b + c) a (omega arith)
    ∙ ap pos (omega arith)

taken_second : (a b c n : ℕ) → a + c ≡ b + n → pos a +ℤ neg_ℤ (pos b) +ℤ pos c ≡ pos n
taken_second a b c n e = ap (λ (z : ℤ). z +ℤ pos c) (+ℤ_comm (pos a) (neg_ℤ (pos b))) ∙ taken_first b a c n e

taken_both : (a b c n : ℕ) → a ≡ b + c + n → pos a +ℤ neg_ℤ (pos b) +ℤ neg_ℤ (pos c) ≡ pos n
taken_both a b c n e =
    +ℤ_assoc (pos a) (neg_ℤ (pos b)) (neg_ℤ (pos c))
    ∙ ap (λ (z : ℤ). pos a +ℤ z) (sym (neg_ℤ-+ℤ (pos b) (pos c)))
    ∙ less a (b + c) (omega arith)
    ∙ ap pos (omega arith)

-- a matrix's entries without their signs, and X, Y and Z of three lights, in 1/10^4: no entry of the first matrix is negative
abbrev size : Matrix → Component → Pixel
size m i j = nat_abs (m i j)

abbrev xyz : Pixel → Pixel
xyz l i = mixed (size to_xyz i) l

-- the two matrices one after the other are the product
pub wide_is : (l : Pixel) (i : Component) → wide_lights (λ j. pos (l j)) i ≡ pos (mixed (product i) l)
wide_is l red =
    taken_both (size from_xyz red red * xyz l red) (size from_xyz red green * xyz l green) (size from_xyz red blue * xyz l blue) (mixed (product red) l)
    (omega arith)
wide_is l green =
    taken_first (size from_xyz green red * xyz l red) (size from_xyz green green * xyz l green) (size from_xyz green blue * xyz l blue)
    (mixed (product green) l)
    (omega arith)
wide_is l blue =
    taken_second (size from_xyz blue red * xyz l red) (size from_xyz blue green * xyz l green) (size from_xyz blue blue * xyz l blue) (mixed (product blue) l)
    (omega arith)

-- scene lights by the product: one whole division each. 265/10^11 is 53/(2 × 10^10)
abbrev pub scene_of : Component → Pixel → ℕ
scene_of i l = 53 * mixed (product i) l / 20000000000

pub scene_is : (l : Pixel) (i : Component) → scene_lights (λ j. pos (l j)) i ≡ pos (scene_of i l)
scene_is l i = rw (wide_is l i) (ap pos (omega arith))
