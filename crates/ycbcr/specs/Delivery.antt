-- What is delivered of a pixel (request 04): its HLG codes as they are, or luma and chroma of these same codes.
use Rattle.quantity.specs.declared.Source.{Source}
use Rattle.quantity.specs.Component.{Pixel}
use Rattle.pixel.specs.Conversion.{code}
use Rattle.ycbcr.specs.declared.SignalFormat.{SignalFormat}
use Rattle.ycbcr.specs.declared.SignalFormat.TheVariants.{Rgb, YCbCr}
use Rattle.ycbcr.specs.YCbCr.{ycbcr}

-- the three samples of a pixel of RGB codes in a signal format
abbrev pub in_format : SignalFormat → Pixel → Pixel
in_format Rgb p = p
in_format YCbCr p = ycbcr p

-- a pixel of PQ codes of a source, converted
abbrev pub delivered : SignalFormat → Source → Pixel → Pixel
delivered format source p = in_format format (code source p)
