use Rattle.std.proofs.Common.{◌≡◌, ◌*◌, ◌≤◌, length, drop}
use Rattle.rows.specs.Row.{pixel_at}
use Rattle.listing.specs.Text.{lines, Stored}
use Rattle.listing.proofs.list_row.Given as goal

abbrev pub invariant-loop-bytes : goal.invariant-loop-bytes
invariant-loop-bytes l =
    record {
      size : l.bytes-iterator.size ≡ 6;
      within : 6 * length l.yielded ≤ length l.codes;
      rest : l.bytes-iterator.rest.now ≡ drop (6 * length l.yielded) l.codes;
      stored : Stored (lines (pixel_at l.codes) (length l.yielded)) 0 l.lines.end l.initial.lines.buffer.now l.lines.buffer.now;
      short : l.lines.end ≤ 18 * length l.yielded;
      same : l.lines.buffer.ghost_name ≡ l.initial.lines.buffer.ghost_name;
    }
