-- `linear_light::LightClass::of` meets its contract: the numbers that the code writes are the definition's.
use Rattle.std.proofs.Common.{}
use lib.Ieee.{of_bits}
use Rattle.linear_light.specs.LinearLight.{class_of}
use Rattle.linear_light.proofs.LightClass.of.Goals as goal

pub returns-then-x : goal.returns-then-x
unfolding class_of of_bits
returns-then-x c = simp c.if-x.true

pub returns-then-x-2 : goal.returns-then-x-2
unfolding class_of of_bits
returns-then-x-2 c = simp (c.if-x.false, c.if-x-2.true)

pub returns-else-x-2 : goal.returns-else-x-2
unfolding class_of of_bits
returns-else-x-2 c = simp (c.if-x.false, c.if-x-2.false)
