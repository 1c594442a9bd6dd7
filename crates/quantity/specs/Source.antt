-- What is declared of a source picture. A peak is in whole cd/m2.
use Rattle.std.specs.Prelude.{ℕ}
use Rattle.quantity.specs.declared.Source.{Source}
use Rattle.quantity.specs.declared.sample_format.Depth.TheVariants.{Ten}
use Rattle.quantity.specs.declared.sample_format.Range.TheVariants.{Narrow}
use Rattle.quantity.specs.SampleFormat.{coded}

-- a source in ten bits and narrow range that was graded at this peak
abbrev pub graded_at : ℕ → Source
graded_at peak = record { peak = peak; format = coded Ten Narrow }
