-- What the three passes over a block of pixels hold, for the private functions that make them. No public call cites it. Components in units.
use Rattle.std.specs.Prelude.{◌≡◌, ℕ, ◌<◌, ◌≤◌, List, length, slice_index, slice_index_or, Option, IfSome}
use Rattle.quantity.specs.Units.{thousand}
use Rattle.quantity.specs.declared.Rgb.{Rgb}
use Rattle.quantity.specs.Component.{red, green, blue, Pixel, components}
use Rattle.hlg.specs.Code.{luminance, hlg_code}
use Rattle.hlg.specs.Root.{IsRoot}
use Rattle.ycbcr.specs.declared.SignalFormat.{SignalFormat}
use Rattle.ycbcr.specs.Delivery.{in_format}

-- no component is above 1,000 cd/m2
pub record IsShown (m : Rgb ℕ) : Type 0 where
  pub red : m.red ≤ thousand
  pub green : m.green ≤ thousand
  pub blue : m.blue ≤ thousand

-- what was found is a root of their luminance
abbrev pub HasRoot : Option ℕ → Rgb ℕ → Type 0
HasRoot found m = IfSome found (λ g. (0 < g) × IsRoot g (luminance m.red m.green m.blue))

-- three HLG codes
pub record AreCodes (c : Rgb ℕ) : Type 0 where
  pub red : (64 ≤ c.red) × (c.red ≤ 1019)
  pub green : (64 ≤ c.green) × (c.green ≤ 1019)
  pub blue : (64 ≤ c.blue) × (c.blue ≤ 1019)

-- no light, and pixel j of a block; there is none past its end
abbrev pub dark : Rgb ℕ
dark = record { red = 0; green = 0; blue = 0 }

abbrev pub pixel_at : List (Rgb ℕ) → ℕ → Rgb ℕ
pixel_at mapped j = slice_index_or mapped j dark

-- the pixels of a block are the mapped ones, p giving each
unfoldable pub MappedTo : (ℕ → Pixel) → List (Rgb ℕ) → Type 0
MappedTo p mapped = (j : ℕ) → j < length mapped → components (pixel_at mapped j) ≡ p j

unfoldable pub AllShown : List (Rgb ℕ) → Type 0
AllShown mapped = (j : ℕ) → j < length mapped → IsShown (pixel_at mapped j)

-- their luminances have these roots, 0 where none was found
abbrev pub luminance_of : Rgb ℕ → ℕ
luminance_of m = luminance m.red m.green m.blue

unfoldable pub RootsTo : List (Rgb ℕ) → List ℕ → Type 0
RootsTo mapped roots = (j : ℕ) → j < length mapped → IsRoot (slice_index roots j) (luminance_of (pixel_at mapped j))

-- the HLG codes of mapped components, and the samples that a format delivers of them
abbrev pub codes_of : Pixel → Pixel
codes_of p i = hlg_code (luminance (p red) (p green) (p blue)) (p i)

abbrev pub samples_of : SignalFormat → Pixel → Pixel
samples_of format p = in_format format (codes_of p)

-- those of the pixels of a block, and of a row
abbrev pub samples_at : SignalFormat → List (Rgb ℕ) → ℕ → Pixel
samples_at format mapped j = samples_of format (components (pixel_at mapped j))

abbrev pub row_samples : SignalFormat → (Pixel → Pixel) → (ℕ → Pixel) → ℕ → Pixel
row_samples format mapping given j = samples_of format (mapping (given j))
