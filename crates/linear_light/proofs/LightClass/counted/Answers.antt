-- `linear_light::LightClass::counted` meets its contract: 10,000 as the code writes it is 625 × 2^4.
use Rattle.std.proofs.Common.{sym, ap}
use lib.Ieee.{of_bits}
use Rattle.linear_light.specs.LinearLight.{counted_as}
use Rattle.linear_light.proofs.LightClass.counted.Goals as goal

pub returns-in-TooBright : goal.returns-in-TooBright
unfolding of_bits
returns-in-TooBright c = sym (ap counted_as c.in-TooBright.is)
