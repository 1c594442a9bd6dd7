-- `linear_light::is_finite` meets its contract: the library's test is that of a value less itself.
use Rattle.std.proofs.Common.{◌∙◌}
use Rattle.linear_light.proofs.FiniteLaws.{finite_by_difference, library_by_difference}
use Rattle.linear_light.proofs.is_finite.Goals as goal

pub returns : goal.returns
returns c = c.is_finite.ensures.value ∙ library_by_difference c.args.x ∙ finite_by_difference c.args.x
