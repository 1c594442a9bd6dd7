-- Pixels and the PQ codes that they become: ends of the range, the first code above black, and the primaries. Each by its thresholds.
use mathlib.Core.Path.{◌≡◌, sym}
use Prim.Native.Nat.{ℕ}
use native.Mathlib.Omega.{arith}
use lib.Dec.{T}
use Rattle.quantity.specs.Units.{units, thousand}
use Rattle.quantity.specs.Component.{Component, red, green, blue, Pixel, pixel}
use Rattle.pq.specs.LightTable.{light_table, light_entry}
use Rattle.inverse_oetf.specs.SceneTable.{scene_table, scene_light}
use Rattle.return_pixel.specs.Conversion.{scene_lights, scene_luminance, pq_codes}
use Rattle.return_pixel.proofs.BetweenLaws.{between, between→}
use Rattle.return_pixel.proofs.PixelLaws.{black}

abbrev Becomes : Pixel → ℕ → ℕ → ℕ → Type 0
Becomes p r g b = (pq_codes p red ≡ r) × (pq_codes p green ≡ g) × (pq_codes p blue ≡ b)

shown : (p : Pixel) (i : Component) (D : ℕ) → T (between (scene_luminance p) (scene_lights p i) D) → pq_codes p i ≡ D
unfolding pq_codes
shown p i D t = sym (between→ (scene_luminance p) (scene_lights p i) D t)

pub examples :
    Becomes (pixel 4 4 4) 64 64 64 ×
    Becomes (pixel 64 64 64) 64 64 64 ×
    Becomes (pixel 65 65 65) 65 65 65 ×
    Becomes (pixel 940 940 940) 723 723 723 ×
    Becomes (pixel 1019 1019 1019) 779 779 779 ×
    Becomes (pixel 940 64 64) 697 64 64 ×
    Becomes (pixel 64 940 64) 64 715 64 ×
    Becomes (pixel 64 64 940) 64 64 669
unfolding units thousand light_table light_entry scene_table scene_light
examples = (
  (black _ red (omega arith), black _ green (omega arith), black _ blue (omega arith)),
  (black _ red (omega arith), black _ green (omega arith), black _ blue (omega arith)),
  (shown _ red 65 tt, shown _ green 65 tt, shown _ blue 65 tt),
  (shown _ red 723 tt, shown _ green 723 tt, shown _ blue 723 tt),
  (shown _ red 779 tt, shown _ green 779 tt, shown _ blue 779 tt),
  (shown _ red 697 tt, black _ green (omega arith), black _ blue (omega arith)),
  (black _ red (omega arith), shown _ green 715 tt, black _ blue (omega arith)),
  (black _ red (omega arith), black _ green (omega arith), shown _ blue 669 tt),
)
