use Rattle.std.proofs.Common.{length, ◌-◌, ◌≡◌, ◌≤◌, take}
use Rattle.std.specs.Io.KnownBytes.{Consumes}
use Rattle.title.proofs.streams.Input.read_opening_bytes.Given as goal

abbrev pub invariant-loop-got : goal.invariant-loop-got
invariant-loop-got g l =
    record {
      within : l.got ≤ 7;
      room : length l.opening ≡ length l.initial.opening;
      bytes : Consumes (g.R.Read.remaining l.initial.self.stream.now) (g.R.Read.remaining l.self.stream.now) (take l.got l.opening);
      same : l.self.stream.ghost_name ≡ l.initial.self.stream.ghost_name;
      errors : l.self.errors.ghost_name ≡ l.initial.self.errors.ghost_name;
      program : l.self.program ≡ l.initial.self.program;
    }

-- what is left of the seven
abbrev pub decreases-loop-got : goal.decreases-loop-got
decreases-loop-got g l = 7 - l.got
