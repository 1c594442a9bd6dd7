-- `return_span::block::root_pixels` meets its contract. The invariant: the pixels so far have their scene lights and roots at their places, and the last
-- pixel has its own.
use Rattle.std.proofs.Common.{◌≡◌, ℕ, ◌⊎◌, inl, inr, sym, subst, arith, length-set}
use Rattle.inverse_oetf.proofs.SceneLaws.{black_scene}
use Rattle.quantity.specs.Component.{Pixel, components}
use Rattle.quantity.specs.declared.Rgb.{Rgb}
use Rattle.rows.proofs.ChunkLaws.{none_yet, next}
use Rattle.return_span.specs.declared.scene.Rooted.{Rooted}
use Rattle.return_span.specs.Settled.{IsRooted}
use Rattle.return_span.proofs.RootLaws.{black_root}
use Rattle.return_span.proofs.BlockLaws.{rooted_none, rooted_more, pixel_read}
use Rattle.return_span.proofs.block.root_pixels.Goals as goal

-- what is kept, or found, is the pixel's
rooted : {p q : Rgb ℕ} {v w : Rooted} → IsRooted (components q) w → (v ≡ w) × (q ≡ p) ⊎ (Rgb ℕ × IsRooted (components p) v) → IsRooted (components p) v
rooted h (inl e) = rw e.0 (rw e.1 at h)
rooted h (inr k) = k.1

pub loop-j-init : goal.loop-j-init
loop-j-init c =
    let row = c.args.src.now in
    let items = c.enumerate-j-items.ensures in
    let chunks = c.chunks_exact.ensures in
    let dark = sym black_scene in
    rw c.into_iter-j-iterator.ensures.into_iter_gives (record {
      left = none_yet 6 row _ (rw items.source chunks.size) (rw items.source chunks.rest) items.count;
      long = c.requires.1;
      rooted = rw items.count (rooted_none row _);
      last = record { red = dark; green = dark; blue = dark; root = (omega arith, black_root) };
    })

pub loop-j-preserved : goal.loop-j-preserved
loop-j-preserved c =
    let row = c.args.src.now in
    let j = c.in-Some.j in
    let inv = c.loop-j.invariant in
    let h = next 6 row c.loop-j.j-iterator c.next.new.self j c.in-Some.bytes inv.left c.in-Some.ensures.steps in
    let own = rooted inv.last c.next-last.ensures.found in
    let here = subst (λ (p : Pixel). IsRooted p c.next-last.result.found) (pixel_read row _ j _ h.chunk c.pixel_of.ensures.samples) own in
    record {
      left = h.left;
      long = simp length-set inv.long;
      rooted = rw h.count (rooted_more row c.loop-j.block j _ (rw h.place inv.rooted) here (omega (arith, h.left.within, h.count, inv.long, c.requires.0)));
      last = rw c.next-last.ensures.pixel own;
    }
