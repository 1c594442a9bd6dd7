-- What tests on a step table settle, whatever the table holds. No public call cites it.
use Rattle.std.specs.Prelude.{List, ℕ, ◌+◌, ◌≤◌, ◌<◌}
pub use Rattle.hlg_steps.specs.Steps.{step_in}

-- d is the last of the codes lo to hi − 1 whose step is at most s, and the step of the next is above u: a scene light from s to u has the code d
pub record Settled (ts : List ℕ) (s u lo hi d : ℕ) : Type 0 where
  pub from : lo ≤ d
  pub to : d < hi
  pub reached : lo < d → step_in ts d ≤ s
  pub missed : d + 1 < hi → u < step_in ts (d + 1)
