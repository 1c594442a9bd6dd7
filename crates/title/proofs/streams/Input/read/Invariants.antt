use Rattle.std.proofs.Common.{length, ◌-◌, ◌≡◌, ◌≤◌, take}
use Rattle.std.specs.Io.KnownBytes.{Consumes}
use Rattle.title.proofs.streams.Input.read.Given as goal

abbrev pub invariant-loop-done : goal.invariant-loop-done
invariant-loop-done g l =
    record {
      room : length l.buffer ≡ length l.initial.buffer;
      within : l.done ≤ length l.buffer;
      bytes : Consumes (g.R.Read.remaining l.initial.self.stream.now) (g.R.Read.remaining l.self.stream.now) (take l.done l.buffer);
      same : l.self.stream.ghost_name ≡ l.initial.self.stream.ghost_name;
      errors : l.self.errors.ghost_name ≡ l.initial.self.errors.ghost_name;
      program : l.self.program ≡ l.initial.self.program;
    }

-- what is left of the buffer
abbrev pub decreases-loop-done : goal.decreases-loop-done
decreases-loop-done g l = length l.initial.buffer - l.done
