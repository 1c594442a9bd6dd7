-- Laws of a delivery: in either format the samples of HLG codes are at most 1,019.
use Prim.Native.Nat.{◌≤◌}
use Rattle.quantity.specs.Component.{Component, Pixel}
use Rattle.ycbcr.specs.declared.SignalFormat.{SignalFormat}
use Rattle.ycbcr.specs.declared.SignalFormat.TheVariants.{Rgb, YCbCr}
use Rattle.ycbcr.specs.Delivery.{in_format}
use Rattle.ycbcr.proofs.YCbCrLaws.{InRange, in_range}

pub format_at_most : (format : SignalFormat) (p : Pixel) → InRange p → (i : Component) → in_format format p i ≤ 1019
format_at_most Rgb p h i = h.most i
format_at_most YCbCr p h i = (in_range p h i).1
