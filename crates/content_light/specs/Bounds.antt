-- What bounds of a row's samples say, and where its last brightest pixel stands: only private functions cite this. Samples are code values.
use Rattle.std.specs.Prelude.{◌≡◌, Bool, true, false, List, ℕ, ◌*◌, ◌≤◌, ◌<◌, Option, Some, None}
use Rattle.quantity.specs.Component.{brightest}
use Rattle.position.specs.Position.{light_at}
use Rattle.rows.specs.Row.{sample_at, pixel_at}
use Rattle.content_light.specs.Peak.{CodedRow, outshines}
use Rattle.content_light.specs.Run.{position_of}

-- the samples of the first n pixels of a row lie from least to most, and one of them is the most: it is at most whatever bounds the brightest codes of
-- all, and so 0 where there is no pixel
pub record Bounded (row : List ℕ) (n least most : ℕ) : Type 0 where
  pub above : (i : ℕ) → i < 3 * n → least ≤ sample_at row i
  pub below : (i : ℕ) → i < 3 * n → sample_at row i ≤ most
  pub reached : (m : ℕ) → ((j : ℕ) → j < n → brightest (pixel_at row j) ≤ m) → most ≤ m

-- pixel j is as bright as the position m
abbrev pub reaches : CodedRow → ℕ → ℕ → Bool
reaches row m j = outshines (light_at (position_of row j)) (light_at m)

-- the last of the first n pixels that is, where one is
pub record LastAt (row : CodedRow) (n m j : ℕ) : Type 0 where
  pub within : j < n
  pub here : reaches row m j ≡ true
  pub others : (k : ℕ) → j < k → k < n → reaches row m k ≡ false

abbrev pub LastReaching : CodedRow → ℕ → ℕ → Option ℕ → Type 0
LastReaching row n m (Some j) = LastAt row n m j
LastReaching row n m None = (k : ℕ) → k < n → reaches row m k ≡ false
