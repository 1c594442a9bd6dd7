use Rattle.std.proofs.Common.{◌≡◌, ◌*◌, ◌≤◌, length, drop}
use Rattle.content_light.specs.Bounds.{Bounded}
use Rattle.content_light.proofs.row.BoundedRow.of.Given as goal

-- the bounds hold for the pixels before, and the bytes behind them are left
abbrev pub invariant-loop-pixel : goal.invariant-loop-pixel
invariant-loop-pixel l =
    record {
      bounded : Bounded l.bytes (length l.yielded) l.least l.most;
      size : l.pixel-iterator.size ≡ 6;
      left : l.pixel-iterator.rest.now ≡ drop (6 * length l.yielded) l.bytes;
      within : 6 * length l.yielded ≤ length l.bytes;
    }
