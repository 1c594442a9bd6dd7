-- The conversion of any pixels under any declared peak (scope, HLG code; Reviewer's questions: a stage reads its range's nearer end), in either signal
-- format (request 04). The peak is in whole cd/m2, codes are ten-bit, lists are bytes.
use Rattle.std.specs.Prelude.{ℕ, min, max}
use Rattle.quantity.specs.declared.Source.{Source}
use Rattle.quantity.specs.Component.{Pixel}
use Rattle.eetf.specs.Curve.{peak_read}
use Rattle.pixel.specs.Conversion.{code}
use Rattle.ycbcr.specs.declared.SignalFormat.{SignalFormat}
use Rattle.ycbcr.specs.Delivery.{delivered}
use Rattle.linear_light.specs.Conversion.{Values, linear_code}

-- what is declared of a source as it is read
abbrev pub source_read : Source → Source
source_read source = record { peak = peak_read source.peak; format = source.format }

-- the HLG codes of a pixel of such a source
abbrev pub codes_under : Source → Pixel → Pixel
codes_under source = code (source_read source)

-- what a format delivers of them
abbrev pub delivered_under : SignalFormat → Source → Pixel → Pixel
delivered_under format source = delivered format (source_read source)

-- the HLG codes of a pixel of values in cd/m2 (request 11)
abbrev pub linear_codes_under : ℕ → Values → Pixel
linear_codes_under peak = linear_code (peak_read peak)

-- an RGB code as it is read: HLG has none below 64 and none above 1,019
abbrev pub hlg_read : ℕ → ℕ
hlg_read d = min (max d 64) 1019
