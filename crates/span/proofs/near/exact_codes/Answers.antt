-- `span::near::exact_codes` meets its contract: components of 0 have the code of black, and others of up to 1,000 cd/m2 are read as they are.
use Rattle.std.proofs.Common.{rules}
use Rattle.span.proofs.MappingLaws.{dark_coded}
use Rattle.span.proofs.near.exact_codes.Goals as goal

pub returns-then-eq : goal.returns-then-eq
returns-then-eq c = dark_coded c.args.m (search rules)
