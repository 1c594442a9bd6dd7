-- `return_span::convert_blocks` meets its contract. The invariant: the destination holds the pixels of the blocks so far converted and then its own bytes.
use Rattle.std.proofs.Common.{◌≡◌, ℕ, ◌+◌, ◌-◌, ◌*◌, ◌/◌, min, List, ◌++◌, length, take, drop, refl, ap, ap₂, ◌∙◌, arith, length-drop, length-take}
use Rattle.std.specs.Iterator.Adapters.{enumerate_count}
use Rattle.return_pixel.specs.Conversion.{pq_codes}
use Rattle.rows.specs.Row.{pixels_bytes, converted, span_bytes}
use Rattle.rows.proofs.RowLaws.{span_of_part}
use Rattle.rows.proofs.SpanLaws.{pixels_put}
use Rattle.rows.proofs.ChunkLaws.{no_part_yet, next_part}
use Rattle.return_span.proofs.convert_blocks.Goals as goal

pub loop-k-init : goal.loop-k-init
unfolding pixels_bytes
loop-k-init c =
    let items = c.enumerate-k-items.ensures in
    let chunks = c.chunks.ensures in
    let none : min (64 * enumerate_count c.enumerate-k-items.result) (length c.args.src.now / 6) ≡ 0 = omega (arith, items.count) in
    rw c.into_iter-k-iterator.ensures.into_iter_gives (record {
      left = no_part_yet 384 c.args.src.now _ (rw items.source chunks.size) (rw items.source chunks.rest) items.count;
      long = refl;
      converted = rw none refl;
    })

pub loop-k-preserved : goal.loop-k-preserved
loop-k-preserved c =
    let row = c.args.src.now in
    let dst = c.loop-k.dst in
    let ys = c.code_pixels.new.dst in
    let k = c.in-Some.k in
    let x = c.in-Some.bytes.now in
    let n = length x / 6 in
    let inv = c.loop-k.invariant in
    let h = next_part 384 row c.loop-k.k-iterator c.next.new.self k c.in-Some.bytes inv.left c.in-Some.ensures.steps in
    let long : length x ≡ min 384 (length row - 384 * k) = rw h.part (simp (length-take, length-drop) refl) in
    let whole : 6 * n ≡ length x = omega (arith, long, c.requires.1) in
    let so_far : min (64 * enumerate_count c.loop-k.k-iterator) (length row / 6) ≡ 64 * k = omega (arith, h.place, h.some, c.requires.1) in
    let then_ : 64 * k + n ≡ min (64 * enumerate_count c.next.new.self) (length row / 6) = omega (arith, h.count, h.some, long, c.requires.1) in
    let from : 384 * k ≡ 6 * (64 * k) = omega arith in
    let part : 384 * k + length x - 384 * k ≡ 6 * (64 * k) + 6 * n - 6 * (64 * k) = omega (arith, whole) in
    let y : ys ≡ span_bytes pq_codes row (64 * k) n =
    c.code_pixels.ensures ∙ ap (λ (l : List ℕ). span_bytes pq_codes l 0 n) h.part
    ∙ span_of_part pq_codes row (64 * k) n (384 * k) 384 from (omega (arith, whole, long)) in
    record {
      left = h.left;
      long = c.root_pixels.ensures.1;
      converted =
          ap₂ (λ (a m : ℕ). take a dst ++ (ys ++ drop m (drop a dst))) from part
          ∙ pixels_put (converted pq_codes row) dst c.args.dst.now ys (64 * k) n (rw so_far at inv.converted) y
          ∙ ap (λ (m : ℕ). span_bytes pq_codes row 0 m ++ drop (6 * m) c.args.dst.now) then_;
    }
