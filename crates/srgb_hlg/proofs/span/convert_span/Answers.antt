-- `srgb_hlg::span::convert_span` meets its contract. The invariant: the destination holds the bytes of the pixels so far and then its own, and what is kept
-- are the bytes of the last pixel's codes.
use Rattle.std.proofs.Common.{◌≡◌, ℕ, ◌+◌, ◌*◌, ◌<◌, ◌≤◌, ◌⊎◌, inl, inr, List, ◌++◌, get_or, take, drop, length, refl, sym, ap, ◌∙◌}
use Rattle.std.proofs.Common.{arith, length-take, get_or-take}
use Rattle.std.specs.Iterator.Adapters.{enumerate_count}
use Rattle.quantity.specs.Component.{components}
use Rattle.quantity.specs.declared.Rgb.{Rgb}
use Rattle.rows.specs.Row.{pixel_bytes, pixels_bytes}
use Rattle.rows.proofs.SpanLaws.{begun, pixel_put}
use Rattle.rows.proofs.ElementLaws.{element_of_part}
use Rattle.srgb.specs.Conversion.{caption_codes}
use Rattle.srgb_hlg.specs.Row.{captions}
use Rattle.rows.proofs.ChunkLaws.{none_yet, next, end}
use Rattle.srgb_hlg.proofs.span.convert_span.Goals as goal

-- the bytes of a pixel's codes
abbrev coded : Rgb ℕ → List ℕ
coded p = pixel_bytes (caption_codes (components p))

-- what is kept, or found, is a pixel's
kept : {V : Type 0} (f : Rgb ℕ → V) {p q : Rgb ℕ} {v w : V} → w ≡ f q → (v ≡ w) × (q ≡ p) ⊎ (Rgb ℕ × (v ≡ f p)) → v ≡ f p
kept f h (inl e) = e.0 ∙ h ∙ ap f e.1
kept f h (inr k) = k.1

-- an element of a chunk of the front of a row is one of the row
element_of_chunk : (row x : List ℕ) (n j i m : ℕ) → x ≡ take 3 (drop (3 * j) (take (3 * n) row)) → 3 * j + 3 ≤ 3 * n → 3 * j + i ≡ m → i < 3
    → get_or x i 0 ≡ get_or row m 0
element_of_chunk row x n j i m e room at h =
    ap (λ (l : List ℕ). get_or l i 0) e ∙ element_of_part 0 (take (3 * n) row) (3 * j) 3 i m at h ∙ get_or-take (3 * n) row m 0 (omega arith)

pub loop-j-init : goal.loop-j-init
unfolding pixels_bytes
loop-j-init c =
    let items = c.enumerate-j-items.ensures in
    let same = c.into_iter-j-iterator.ensures.into_iter_gives in
    let chunks = c.chunks_exact.ensures in
    rw same (record {
      left = none_yet 3 (take (3 * c.min-pixels.result) c.args.src.now) _ (rw items.source chunks.size) (rw items.source chunks.rest) items.count;
      converted = rw items.count refl;
      last = c.coded_black-last.ensures;
    })

pub loop-j-preserved : goal.loop-j-preserved
loop-j-preserved c =
    let row = c.args.src.now in
    let n = c.min-pixels.result in
    let j = c.in-Some.j in
    let loop = c.loop-j in
    let x = c.in-Some.bytes.now in
    let h = next 3 (take (3 * n) row) loop.j-iterator c.next.new.self j c.in-Some.bytes loop.invariant.left c.in-Some.ensures.steps in
    let before : loop.dst ≡ pixels_bytes (captions row) 0 j ++ drop (6 * j) c.args.dst.now = rw h.place loop.invariant.converted in
    let own = kept coded loop.invariant.last c.next-last.ensures.found in
    let room : 3 * j + 3 ≤ 3 * n = omega (arith, h.left.within, h.count, length-take (3 * n) row) in
    let r = c.from.ensures ∙ element_of_chunk row x n j 0 (3 * j) h.chunk room (omega arith) (omega arith) in
    let g = c.from-in-loop-j.ensures ∙ element_of_chunk row x n j 1 (3 * j + 1) h.chunk room (omega arith) (omega arith) in
    let b = c.from-in-loop-j-2.ensures ∙ element_of_chunk row x n j 2 (3 * j + 2) h.chunk room (omega arith) (omega arith) in
    let bytes : c.copy_from_slice.new.self ≡ pixel_bytes (captions row j) =
    c.copy_from_slice.ensures.after ∙ own ∙ rw (r, g, b) in
    record {
      left = h.left;
      converted = rw h.count (pixel_put (captions row) loop.dst c.args.dst.now c.copy_from_slice.new.self j before bytes);
      last = own ∙ ap coded (sym c.next-last.ensures.pixel);
    }

pub returns : goal.returns
returns c =
    let row = c.args.src.now in
    let dst = c.args.dst.now in
    let n = c.min-pixels.result in
    let loop = c.loop-j in
    let past = end 3 (take (3 * n) row) loop.j-iterator c.next.new.self loop.invariant.left c.in-None.ensures.steps in
    let j : enumerate_count loop.j-iterator ≡ n = omega (arith, past, loop.invariant.left.within, length-take (3 * n) row, c.min-pixels.ensures) in
    begun (captions row) dst (2 * length row) n (omega (arith, c.min-pixels.ensures)) (rw j at loop.invariant.converted)
