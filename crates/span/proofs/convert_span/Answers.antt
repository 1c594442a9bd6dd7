-- `span::convert_span` meets its contract: the pixels are those of a row of codes.
use Rattle.std.proofs.Common.{◌≡◌, ℕ, ◌/◌, min, length, ap, ap₂, ◌∙◌, arith}
use Rattle.quantity.specs.Component.{Pixel}
use Rattle.rows.specs.Row.{with_pixels, converted}
use Rattle.ycbcr.specs.Delivery.{delivered}
use Rattle.rows.proofs.RowLaws.{no_pixels}
use Rattle.span.proofs.RowLaws.{row_delivered}
use Rattle.span.proofs.convert_span.Goals as goal

pub returns-then-pixels-eq0 : goal.returns-then-pixels-eq0
returns-then-pixels-eq0 c = no_pixels _ _ _ (omega arith)

pub returns : goal.returns
returns c =
    let a = c.args in
    let src = a.src.now in
    let dst = a.dst.now in
    let n : min (length src / 6) (length dst / 6) ≡ min (length src) (length dst) / 6 = omega arith in
    c.convert_pixels.ensures
    ∙ ap₂ (λ (p : ℕ → Pixel) (k : ℕ). with_pixels p dst 0 k) (row_delivered a.format (record { peak = c.of.result.peak; format = a.source.format }) src) n
    ∙ ap
    (λ (k : ℕ).
    with_pixels (converted (delivered a.format (record { peak = k; format = a.source.format })) src) dst 0 (min (length src) (length dst) / 6))
    c.of.ensures
