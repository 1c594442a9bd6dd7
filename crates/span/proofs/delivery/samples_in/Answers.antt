-- `span::delivery::samples_in` meets its contract: what the call makes of the codes, or the codes as they are.
use Rattle.std.proofs.Common.{refl}
use Rattle.span.proofs.delivery.samples_in.Goals as goal

pub returns-in-Rgb : goal.returns-in-Rgb
returns-in-Rgb c = rw c.in-Rgb.is refl

pub returns-in-YCbCr : goal.returns-in-YCbCr
returns-in-YCbCr c = rw c.in-YCbCr.is c.luma_and_chroma.ensures
