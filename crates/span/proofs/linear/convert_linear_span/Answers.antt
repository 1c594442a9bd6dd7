-- `span::linear::convert_linear_span` meets its contract: the pixels are those of a row of floats.
use Rattle.std.proofs.Common.{◌≡◌, ℕ, ◌*◌, ◌/◌, min, length, ap, ap₂, ◌∙◌, arith}
use Rattle.quantity.specs.Component.{Pixel}
use Rattle.rows.specs.Row.{with_pixels}
use Rattle.ycbcr.specs.declared.SignalFormat.TheVariants.{Rgb}
use Rattle.linear_light.specs.Conversion.{linear_code}
use Rattle.linear_light.specs.Row.{converted_from}
use Rattle.rows.proofs.RowLaws.{no_pixels}
use Rattle.span.proofs.RowLaws.{floats_delivered}
use Rattle.span.proofs.linear.convert_linear_span.Goals as goal

pub returns-then-pixels-eq0 : goal.returns-then-pixels-eq0
returns-then-pixels-eq0 c = no_pixels _ _ _ (omega arith)

pub returns : goal.returns
returns c =
    let a = c.args in
    let src = a.src.now in
    let dst = a.dst.now in
    let n : min (length src / 3) (length dst / 6) ≡ min (2 * length src) (length dst) / 6 = omega arith in
    c.convert_pixels.ensures
    ∙ ap₂ (λ (p : ℕ → Pixel) (k : ℕ). with_pixels p dst 0 k) (floats_delivered Rgb c.of.result.peak src) n
    ∙ ap (λ (k : ℕ). with_pixels (converted_from (linear_code k) src) dst 0 (min (2 * length src) (length dst) / 6)) c.of.ensures
