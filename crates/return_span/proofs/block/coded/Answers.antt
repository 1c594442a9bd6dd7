-- `return_span::block::coded` meets its contract: the codes of a pixel's scene lights are the pixel's, and fit in 16 bits.
use Rattle.std.proofs.Common.{◌∙◌, arith}
use Rattle.return_span.proofs.CodesLaws.{of_codes, has_codes, codes_fit, codes_bytes}
use Rattle.return_span.proofs.block.coded.Goals as goal

pub codes-codes-requires : goal.codes-codes-requires
codes-codes-requires c = let h = c.requires.1 in (h.root, of_codes c.requires.0 c.args.own h)

pub overflow_cast-codes : goal.overflow_cast-codes
overflow_cast-codes c =
    let fit = codes_fit _ _ _ (has_codes c.requires.0 c.args.own c.requires.1 c.codes-codes.ensures) in record { fits = omega (arith, fit.0) }

pub overflow_cast-codes-2 : goal.overflow_cast-codes-2
overflow_cast-codes-2 c =
    let fit = codes_fit _ _ _ (has_codes c.requires.0 c.args.own c.requires.1 c.codes-codes.ensures) in record { fits = omega (arith, fit.1) }

pub overflow_cast-codes-3 : goal.overflow_cast-codes-3
overflow_cast-codes-3 c =
    let fit = codes_fit _ _ _ (has_codes c.requires.0 c.args.own c.requires.1 c.codes-codes.ensures) in record { fits = omega (arith, fit.2) }

pub returns : goal.returns
returns c p h = c.pixel_bytes.ensures ∙ codes_bytes p (has_codes p c.args.own h c.codes-codes.ensures)
