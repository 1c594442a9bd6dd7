-- `span::mapping::scaled` meets its contract: a quotient that passes its test is the floor, and `map_component` reads no number of these at an end.
use Rattle.std.proofs.Common.{◌*◌, rules}
use Rattle.words.proofs.QuotientLaws.{quotient_is}
use Rattle.quantity.specs.Units.{units, ten_thousand}
use Rattle.eetf.specs.Curve.{mapped_light}
use Rattle.span.proofs.mapping.scaled.Goals as goal

pub overflow_mul-c : goal.overflow_mul-c
unfolding units ten_thousand
overflow_mul-c c = search rules

pub returns-then-is_quotient : goal.returns-then-is_quotient
unfolding mapped_light
returns-then-is_quotient c =
    let a = c.args in
    quotient_is _ (a.c * a.m2) a.m1 (cc (c.is_quotient.ensures, c.if-is_quotient.true))
