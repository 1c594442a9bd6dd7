use Rattle.std.proofs.Common.{◌≡◌, ℕ, ◌<◌, slice_index, length}
use Rattle.hlg.specs.Root.{IsRoot}
use Rattle.span.specs.Block.{pixel_at, luminance_of}
use Rattle.span.proofs.block.find_roots.Given as goal

abbrev pub invariant-loop-k : goal.invariant-loop-k
invariant-loop-k l =
    (length l.roots ≡ length l.mapped)
    × ((j : ℕ) → j < l.k → IsRoot (slice_index l.roots j) (luminance_of (pixel_at l.mapped j)))
    × IsRoot l.found l.luminance
