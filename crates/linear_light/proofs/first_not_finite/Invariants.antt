use Rattle.std.proofs.Common.{◌≡◌, ◌-◌}
use Rattle.linear_light.specs.Row.{first_not_finite}
use Rattle.linear_light.proofs.first_not_finite.Given as goal

-- every value before i is a number, so that the search from i finds what the whole one finds
abbrev pub invariant-loop-i : goal.invariant-loop-i
invariant-loop-i l = first_not_finite l.row l.initial.i (l.i-end - l.initial.i) ≡ first_not_finite l.row l.i (l.i-end - l.i)
