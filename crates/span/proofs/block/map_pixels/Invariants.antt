use Rattle.std.proofs.Common.{◌≡◌, ℕ, ◌+◌, ◌<◌, ◌≤◌, length}
use Rattle.quantity.specs.Component.{components}
use Rattle.span.specs.Block.{pixel_at}
use Rattle.span.proofs.block.map_pixels.Given as goal

abbrev pub invariant-loop-k : goal.invariant-loop-k
invariant-loop-k g l =
    (l.first + length l.mapped ≤ g.R.Row.pixels l.row)
    × ((j : ℕ) → j < l.k → components (pixel_at l.mapped j) ≡ g.R.Row.mapping l.row (g.R.Row.given l.row (l.first + j)))
    × (components l.last.found ≡ g.R.Row.mapping l.row (components l.last.pixel))
