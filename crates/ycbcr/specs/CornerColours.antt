-- Document 002's corner colours of 1,000 cd/m2 in Y'CbCr (request 04). Its table starts from signals that are not rounded and has 303 for the luma of
-- red; both deliveries come from the same RGB codes, which give 304. The other seven are the table's.
use Rattle.std.specs.Prelude.{◌≡◌, ℕ}
use Rattle.quantity.specs.Source.{graded_at}
use Rattle.quantity.specs.Component.{red, green, blue, Pixel, pixel}
use Rattle.ycbcr.specs.declared.SignalFormat.TheVariants.{YCbCr}
use Rattle.ycbcr.specs.Delivery.{delivered}

-- a pixel under a peak of 1,000 cd/m2 is delivered as this luma, Cb and Cr
pub record Gives (p : Pixel) (y b r : ℕ) : Type 0 where
  pub to_luma : delivered YCbCr (graded_at 1000) p red ≡ y
  pub to_cb : delivered YCbCr (graded_at 1000) p green ≡ b
  pub to_cr : delivered YCbCr (graded_at 1000) p blue ≡ r

pub record CornerColours : Type 0 where
  pub black : Gives (pixel 64 64 64) 64 512 512
  pub pure_red : Gives (pixel 723 64 64) 304 382 978
  pub pure_green : Gives (pixel 64 723 64) 665 185 95
  pub pure_blue : Gives (pixel 64 64 723) 120 998 473
  pub yellow : Gives (pixel 723 723 64) 890 63 548
  pub cyan : Gives (pixel 64 723 723) 716 638 60
  pub magenta : Gives (pixel 723 64 723) 356 846 938
  pub white : Gives (pixel 723 723 723) 940 512 512
