-- `linear_light::light_of_value` meets its contract: the value as it counts lies in the range of which its light is promised.
use Rattle.std.proofs.Common.{◌∙◌}
use Rattle.linear_light.specs.LinearLight.{exact_light, whole_light}
use Rattle.linear_light.proofs.ValueLaws.{counted_within}
use Rattle.linear_light.proofs.light_of_value.Goals as goal

pub whole_light-requires : goal.whole_light-requires
whole_light-requires c =
    let x = c.args.x in
    rw (c.counted.ensures, c.of.ensures) (counted_within x)

pub returns : goal.returns
unfolding whole_light exact_light
returns c = c.whole_light.ensures ∙ rw (c.counted.ensures, c.of.ensures)
