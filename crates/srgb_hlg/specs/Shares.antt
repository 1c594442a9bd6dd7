-- The scene light of a component by its shares of a pixel's three lights, in 1/2^40. No public call cites it.
use Rattle.std.specs.Prelude.{ℕ, ◌+◌, ◌*◌, ◌/◌, ◌^◌, ◌≤◌}
use Rattle.quantity.specs.Component.{Component, red, green, blue, Pixel}

-- so many shares of three lights, in 1/(2 × 10^10)
abbrev pub shared_light : Pixel → Pixel → ℕ
shared_light share l = (share red * l red + share green * l green + share blue * l blue) / 20000000000

-- the lights are those of an sRGB display, and the shares no more than red's, which have the largest sum
pub record Fit (share l : Pixel) : Type 0 where
  pub shares : share red + share green + share blue ≤ 5300374975
  pub first : l red ≤ 2 ^ 40
  pub second : l green ≤ 2 ^ 40
  pub third : l blue ≤ 2 ^ 40

-- w is the weight of a share: the share times 2^23 / 5^10, rounded down
pub record Weight (share w : ℕ) : Type 0 where
  pub low : w * 9765625 ≤ share * 2 ^ 23
  pub high : share * 2 ^ 23 ≤ (w + 1) * 9765625

-- the weights of three shares
abbrev pub Weights : Pixel → Pixel → Type 0
Weights share w = (i : Component) → Weight (share i) (w i)

-- how far a scene light may lie above what weights and the upper bits of the lights give
abbrev pub spread : ℕ
spread = 736
