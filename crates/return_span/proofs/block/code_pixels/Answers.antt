-- `return_span::block::code_pixels` meets its contract. The invariant: the destination holds the bytes of the pixels so far and then its own, and what is
-- kept are the bytes of the last pixel's codes.
use Rattle.std.proofs.Common.{◌≡◌, ℕ, ◌⊎◌, inl, inr, List, [], ◌∷◌, refl, sym, ap, ◌∙◌, le_refl, arith}
use Rattle.quantity.specs.Component.{red, green, blue, Pixel, pixel, components}
use Rattle.quantity.specs.declared.Rgb.{Rgb}
use Rattle.return_pixel.specs.Conversion.{pq_codes}
use Rattle.return_pixel.proofs.PixelLaws.{black}
use Rattle.rows.specs.Row.{pixel_at, pixel_bytes, pixels_bytes, converted}
use Rattle.rows.proofs.SpanLaws.{pixel_put}
use Rattle.rows.proofs.ChunkLaws.{none_yet, next}
use Rattle.return_span.specs.declared.scene.Rooted.{Rooted}
use Rattle.return_span.specs.Settled.{IsRooted}
use Rattle.return_span.proofs.BlockLaws.{rooted_at, pixel_read}
use Rattle.return_span.proofs.CodesLaws.{codes_bytes}
use Rattle.return_span.proofs.block.code_pixels.Goals as goal

-- the bytes of a pixel's codes
abbrev coded : Pixel → List ℕ
coded p = pixel_bytes (pq_codes p)

black_bytes : 0 ∷ 64 ∷ 0 ∷ 64 ∷ 0 ∷ 64 ∷ [] ≡ coded (pixel 64 64 64)
unfolding pixel_bytes
black_bytes =
    let p = pixel 64 64 64 in
    codes_bytes p {x = 64} {y = 64} {z = 64}
    (record { red = sym (black p red (le_refl 64)); green = sym (black p green (le_refl 64)); blue = sym (black p blue (le_refl 64)) })

-- what is kept, or found by the pixel's own scene lights and root, are its bytes
bytes_of_pixel : {own : Rooted} {p q : Rgb ℕ} {v w : List ℕ} (at : Pixel) → components p ≡ at → w ≡ coded (components q) → IsRooted at own
    → (v ≡ w) × (q ≡ p) ⊎ (Rgb ℕ × ((x : Pixel) → IsRooted x own → v ≡ coded x)) → v ≡ coded at
bytes_of_pixel at same last own (inl e) = e.0 ∙ last ∙ ap (λ (r : Rgb ℕ). coded (components r)) e.1 ∙ ap coded same
bytes_of_pixel at same last own (inr k) = k.1 at own

pub loop-j-init : goal.loop-j-init
unfolding pixels_bytes
loop-j-init c =
    let row = c.args.src.now in
    let items = c.enumerate-j-items.ensures in
    let chunks = c.chunks_exact.ensures in
    rw c.into_iter-j-iterator.ensures.into_iter_gives (record {
      left = none_yet 6 row _ (rw items.source chunks.size) (rw items.source chunks.rest) items.count;
      converted = rw items.count refl;
      last = black_bytes;
    })

pub next-last-requires : goal.next-last-requires
next-last-requires c =
    let row = c.args.src.now in
    let j = c.in-Some.j in
    let h = next 6 row c.loop-j.j-iterator c.next.new.self j c.in-Some.bytes c.loop-j.invariant.left c.in-Some.ensures.steps in
    (pixel_at row j, rooted_at row _ _ j _ c.requires.1 (omega (arith, h.left.within, h.count)))

pub loop-j-preserved : goal.loop-j-preserved
loop-j-preserved c =
    let row = c.args.src.now in
    let j = c.in-Some.j in
    let inv = c.loop-j.invariant in
    let h = next 6 row c.loop-j.j-iterator c.next.new.self j c.in-Some.bytes inv.left c.in-Some.ensures.steps in
    let same = pixel_read row _ j _ h.chunk c.pixel_of.ensures.samples in
    let own = rooted_at row c.args.block.now _ j _ c.requires.1 (omega (arith, h.left.within, h.count)) in
    let bytes = bytes_of_pixel (pixel_at row j) same inv.last own c.next-last.ensures.found in
    record {
      left = h.left;
      converted =
          rw h.count
          (pixel_put (converted pq_codes row) c.loop-j.dst c.args.dst.now _ j (rw h.place inv.converted) (c.copy_from_slice.ensures.after ∙ bytes));
      last = bytes ∙ sym (ap coded same) ∙ sym (ap (λ (r : Rgb ℕ). coded (components r)) c.next-last.ensures.pixel);
    }
