-- `span::mapping::ten_bit_light` meets its contract: a code's light is the entry at four times what it lies above black.
use Rattle.std.proofs.Common.{sym, refl, ap, ◌∙◌, ◌*◌, ℕ}
use Rattle.quantity.specs.declared.sample_format.Depth.TheVariants.{Ten}
use Rattle.quantity.specs.declared.sample_format.Range.TheVariants.{Narrow}
use Rattle.quantity.specs.SampleFormat.{coded}
use Rattle.pq.specs.Pq.{entry_in}
use Rattle.pq.specs.LightTable.{light_table, light_entry}
use Rattle.pq.proofs.EntryLaws.{entry_read}
use Rattle.position.proofs.CodeLaws.{narrow_light, lent_code_light}
use Rattle.span.proofs.mapping.ten_bit_light.Goals as goal

pub returns : goal.returns
returns c =
    let narrow = coded Ten Narrow in
    let d = c.args.d in
    c.light_entry.ensures.0
    ∙ ap (λ (a : ℕ). light_entry (4 * a)) c.ten_bit_above.ensures.0
    ∙ sym (entry_read light_table _ refl)
    ∙ narrow_light (entry_in light_table) narrow d refl
    ∙ lent_code_light light_table narrow d refl
