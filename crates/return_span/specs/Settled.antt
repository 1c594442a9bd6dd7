-- What the fast conversion's private functions give one another (request 08). No public call cites it. Light in units, scene light in 1/2^40 of the
-- nominal range.
use Rattle.std.specs.Prelude.{◌≡◌, ℕ, ◌+◌, ◌<◌, ◌≤◌, List, IfSome, slice_index_or}
use Rattle.quantity.specs.Component.{red, green, blue, Pixel, pixel, components, weighted}
use Rattle.quantity.specs.declared.Rgb.{Rgb}
use Rattle.inverse_oetf.specs.SceneTable.{scene_light}
use Rattle.ootf.specs.Light.{display_light}
use Rattle.ootf.specs.Root.{LowRoot, HighRoot}
use Rattle.inverse_eotf.specs.Code.{threshold_in, pq_code}
use Rattle.rows.specs.Row.{pixel_at}
use Rattle.return_span.specs.declared.root.Roots.{Roots}
use Rattle.return_span.specs.declared.scene.Rooted.{Rooted}

-- x, y, z are the PQ codes of three scene lights r, g, b
pub record SceneCodes (r g b x y z : ℕ) : Type 0 where
  pub red : x ≡ pq_code (display_light (weighted (pixel r g b)) r)
  pub green : y ≡ pq_code (display_light (weighted (pixel r g b)) g)
  pub blue : z ≡ pq_code (display_light (weighted (pixel r g b)) b)

-- g and h enclose the fifth root of a luminance, or h is 0
pub record Enclosed (g h Y : ℕ) : Type 0 where
  pub low : 0 < h → LowRoot g Y
  pub high : 0 < h → HighRoot h Y

-- so do bounds that were found
abbrev pub Enclose : Roots → ℕ → Type 0
Enclose r Y = (0 < r.high) × Enclosed r.low r.high Y

-- scene lights that codes have: none is above that of code 1,019
abbrev pub OfCodes : Rgb ℕ → Type 0
OfCodes s = (s.red ≤ 1803467062476) × (s.green ≤ 1803467062476) × (s.blue ≤ 1803467062476)

-- the bounds that were found, if any, enclose the root of the scene lights' luminance
abbrev pub HasRoot : Rooted → Type 0
HasRoot x = IfSome x.roots (λ r. Enclose r (weighted (components x.scene)))

-- a pixel's scene lights and their root
pub record IsRooted (p : Pixel) (x : Rooted) : Type 0 where
  pub red : x.scene.red ≡ scene_light (p red)
  pub green : x.scene.green ≡ scene_light (p green)
  pub blue : x.scene.blue ≡ scene_light (p blue)
  pub root : HasRoot x

-- the first n pixels of a row have their scene lights and roots, each at its place
unfoldable pub RootedTo : List ℕ → List Rooted → ℕ → Type 0
RootedTo row block n = (j : ℕ) (none : Rooted) → j < n → IsRooted (pixel_at row j) (slice_index_or block j none)

-- in a table of thresholds, whatever they are, D is the code of every light from low to high: they reach its threshold, unless it is 64, and miss the
-- next one's
pub record Settled (t : List ℕ) (low high D : ℕ) : Type 0 where
  pub from : 64 ≤ D
  pub to : D ≤ 939
  pub reached : 64 < D → threshold_in t D ≤ low
  pub missed : high < threshold_in t (D + 1)
