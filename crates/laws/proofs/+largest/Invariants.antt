use Rattle.std.proofs.Common.{◌-◌}
use Rattle.laws.proofs.+largest.Given as goal

-- the measure is how many numbers are left
abbrev pub decreases-largest : goal.decreases-largest
decreases-largest g l = l.last - l.from
