-- `span::block::code_pixels` meets its contract. The invariant: the destination holds the bytes of the pixels so far and then its own, and what is kept
-- are the samples of the last.
use Rattle.std.proofs.Common.{◌≡◌, ℕ, ◌<◌, ◌⊎◌, get_or, refl, sym, ap, ◌∙◌, arith, length-drop, length-take}
use Rattle.quantity.specs.declared.Rgb.{Rgb}
use Rattle.quantity.specs.Component.{components}
use Rattle.hlg.specs.Root.{IsRoot}
use Rattle.rows.specs.Row.{pixel_bytes, pixels_bytes}
use Rattle.rows.proofs.SpanLaws.{pixel_put}
use Rattle.ycbcr.specs.declared.SignalFormat.{SignalFormat}
use Rattle.span.specs.Block.{AllShown, RootsTo, luminance_of, pixel_at, samples_of, samples_at}
use Rattle.span.proofs.BlockLaws.{kept}
use Rattle.span.proofs.NearLaws.{if_some}
use Rattle.span.proofs.MappingLaws.{pixel_is, coded_fit}
use Rattle.span.proofs.block.code_pixels.Goals as goal
use Rattle.span.proofs.block.code_pixels.Goals.{After-next-last}

pub loop-k-init : goal.loop-k-init
unfolding pixels_bytes
loop-k-init c = (refl, c.coded_samples.ensures)

pub next-last-requires : goal.next-last-requires
unfolding AllShown RootsTo
next-last-requires c =
    let root = c.requires.1 c.loop-k.k (omega arith) in
    let y = luminance_of (pixel_at c.args.mapped.now c.loop-k.k) in (
      c.requires.0 _ (omega arith),
      if_some (λ (g : ℕ). (g ≡ get_or c.args.roots.now c.loop-k.k 0) × (0 < g)) (λ (g : ℕ). (0 < g) × IsRoot g y) c.found_root-root.result
          (λ g h. (h.1, rw h.0 root)) c.found_root-root.ensures,
    )

-- what is kept are the samples of a pixel with the last one's numbers
taken : (format : SignalFormat) (last : Rgb ℕ) {X : Type 0} {p q u v : Rgb ℕ} → ((v ≡ u) × (q ≡ p)) ⊎ X
    → (X → components v ≡ samples_of format (components p)) → components u ≡ samples_of format (components last)
    → q.red ≡ last.red → q.green ≡ last.green → q.blue ≡ last.blue → components v ≡ samples_of format (components p)
taken format last found new samples red green blue =
    kept (λ (p v : Rgb ℕ). components v ≡ samples_of format (components p))
    (samples ∙ ap (samples_of format) (sym (pixel_is (components last) red green blue))) found new

here : (c : After-next-last) → components c.next-last.result.found ≡ samples_at c.args.format c.args.mapped.now c.loop-k.k
here c =
    taken c.args.format c.loop-k.last.pixel c.next-last.ensures.found (λ x. x.1) c.loop-k.invariant.1 (omega arith) (omega arith) (omega arith)

pub write_samples-requires : goal.write_samples-requires
write_samples-requires c =
    let fit = coded_fit c.args.format c.next-last.result.found _ (here (goal.at.write_samples-requires c).After-next-last) in
    (simp (length-take, length-drop) (omega arith), fit.0, fit.1, fit.2)

pub loop-k-preserved : goal.loop-k-preserved
loop-k-preserved c =
    let a = c.args in
    let now = here (goal.at.loop-k-preserved c).After-next-last in (
      pixel_put (samples_at a.format a.mapped.now) c.loop-k.dst a.dst.now _ c.loop-k.k c.loop-k.invariant.0
          (c.write_samples.ensures ∙ ap pixel_bytes now),
      rw c.next-last.ensures.pixel now,
    )
