-- `span::mapping::ten_bit_narrow_lights` meets its contract: a code's position is 1,024 times what it lies above black.
use Rattle.std.proofs.Common.{◌≡◌, ℕ, ◌*◌, rules, arith}
use Rattle.quantity.specs.declared.sample_format.Depth.TheVariants.{Ten}
use Rattle.quantity.specs.declared.sample_format.Range.TheVariants.{Narrow}
use Rattle.quantity.specs.SampleFormat.{coded}
use Rattle.quantity.specs.Component.{red, green, blue}
use Rattle.position.specs.Code.{above_black, code_position}
use Rattle.position.proofs.CodeLaws.{narrow_position}
use Rattle.pixel.specs.Conversion.{brightest_position}
use Rattle.span.proofs.mapping.ten_bit_narrow_lights.Goals as goal

position : (D : ℕ) {a d : ℕ} → a ≡ above_black (coded Ten Narrow) d → d ≡ D → 1024 * a ≡ code_position (coded Ten Narrow) D
position D e f = rw (e, f) (omega (arith, narrow_position Ten D))

pub returns : goal.returns
unfolding brightest_position
returns c =
    (elim [ red ↦ search rules | green ↦ search rules | blue ↦ search rules ], position _ c.ten_bit_above.ensures.0 c.brightest.ensures)
