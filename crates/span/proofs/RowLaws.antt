-- Laws of rows: what is delivered of their mapped pixels is what the definitions deliver.
use Rattle.std.proofs.Common.{◌≡◌, ℕ, List, refl}
use lib.Ieee.{Float}
use Rattle.quantity.specs.declared.Source.{Source}
use Rattle.pixel.specs.Conversion.{mapped, code, code_of}
use Rattle.rows.specs.Row.{pixel_at, converted}
use Rattle.ycbcr.specs.declared.SignalFormat.{SignalFormat}
use Rattle.ycbcr.specs.Delivery.{in_format, delivered}
use Rattle.linear_light.specs.Conversion.{lights_of, linear_code}
use Rattle.linear_light.specs.Row.{linear_at, converted_from}
use Rattle.span.specs.Block.{row_samples}
use Rattle.span.specs.Linear.{mapped_lights}

pub row_delivered : (format : SignalFormat) (source : Source) (codes : List ℕ)
    → row_samples format (mapped source) (pixel_at codes) ≡ converted (delivered format source) codes
unfolding code code_of mapped
row_delivered format source codes = refl

pub floats_delivered : (format : SignalFormat) (peak : ℕ) (values : List Float)
    → row_samples format (mapped_lights peak) (λ j. lights_of (linear_at values j)) ≡ converted_from (λ v. in_format format (linear_code peak v)) values
unfolding linear_code code_of
floats_delivered format peak values = refl
