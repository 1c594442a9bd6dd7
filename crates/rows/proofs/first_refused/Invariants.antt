use Rattle.std.proofs.Common.{◌≡◌, ◌-◌}
use Rattle.rows.specs.Answer.{outside, first_refused}
use Rattle.rows.proofs.first_refused.Given as goal

-- no sample before i is refused, so that the search from i finds what the whole one finds
abbrev pub invariant-loop-i : goal.invariant-loop-i
invariant-loop-i l =
    let refused = outside l.taken.least l.taken.most in
    first_refused refused l.row l.initial.i (l.i-end - l.initial.i) ≡ first_refused refused l.row l.i (l.i-end - l.i)
