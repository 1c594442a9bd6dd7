-- `srgb_hlg::span::coded_black` meets its contract: black has the code of black.
use Rattle.std.proofs.Common.{sym}
use Rattle.quantity.specs.Component.{red, green, blue}
use Rattle.rows.specs.Row.{pixel_bytes}
use Rattle.srgb.specs.Conversion.{caption_codes}
use Rattle.srgb.proofs.PixelLaws.{black}
use Rattle.srgb_hlg.proofs.CodesLaws.{codes_bytes}
use Rattle.srgb_hlg.proofs.span.coded_black.Goals as goal

pub returns : goal.returns
unfolding caption_codes pixel_bytes
returns c =
    codes_bytes {r = 0} {g = 0} {b = 0} {x = 64} {y = 64} {z = 64}
    (record { red = sym (black red); green = sym (black green); blue = sym (black blue) })
