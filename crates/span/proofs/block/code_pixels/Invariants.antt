use Rattle.std.proofs.Common.{◌≡◌, ◌*◌, ◌++◌, drop}
use Rattle.quantity.specs.Component.{components}
use Rattle.rows.specs.Row.{pixels_bytes}
use Rattle.span.specs.Block.{samples_of, samples_at}
use Rattle.span.proofs.block.code_pixels.Given as goal

abbrev pub invariant-loop-k : goal.invariant-loop-k
invariant-loop-k l =
    (l.dst ≡ pixels_bytes (samples_at l.format l.mapped) 0 l.k ++ drop (6 * l.k) l.initial.dst)
    × (components l.last.found ≡ samples_of l.format (components l.last.pixel))
