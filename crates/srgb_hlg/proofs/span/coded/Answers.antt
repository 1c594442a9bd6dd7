-- `srgb_hlg::span::coded` meets its contract: the codes fit in 16 bits.
use Rattle.std.proofs.Common.{arith, ◌∙◌}
use Rattle.srgb_hlg.proofs.CodesLaws.{codes_fit, codes_bytes}
use Rattle.srgb_hlg.proofs.span.coded.Goals as goal

pub overflow_cast-codes : goal.overflow_cast-codes
overflow_cast-codes c = let fit = codes_fit _ _ _ c.codes_of-codes.ensures in record { fits = omega (arith, fit.0) }

pub overflow_cast-codes-2 : goal.overflow_cast-codes-2
overflow_cast-codes-2 c = let fit = codes_fit _ _ _ c.codes_of-codes.ensures in record { fits = omega (arith, fit.1) }

pub overflow_cast-codes-3 : goal.overflow_cast-codes-3
overflow_cast-codes-3 c = let fit = codes_fit _ _ _ c.codes_of-codes.ensures in record { fits = omega (arith, fit.2) }

pub returns : goal.returns
returns c = c.pixel_bytes.ensures ∙ codes_bytes c.codes_of-codes.ensures
