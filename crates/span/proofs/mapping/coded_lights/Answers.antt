-- `span::mapping::coded_lights` meets its contract: each code has its light, and the position is that of the brightest code.
use Rattle.std.proofs.Common.{ap, ◌∙◌, rules}
use Rattle.quantity.specs.Component.{red, green, blue}
use Rattle.position.specs.Code.{code_position}
use Rattle.pixel.specs.Conversion.{brightest_position}
use Rattle.span.proofs.mapping.coded_lights.Goals as goal

pub returns : goal.returns
unfolding brightest_position
returns c = (
  elim [ red ↦ search rules | green ↦ search rules | blue ↦ search rules ],
  c.code_position.ensures ∙ ap (code_position c.args.format) c.brightest.ensures,
)
