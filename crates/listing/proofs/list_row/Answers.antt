-- After each chunk of six bytes the lines of the pixels so far stand in the buffer, in at most 18 bytes for each.
use Rattle.std.proofs.Common.{◌≡◌, ℕ, ◌+◌, ◌*◌, ◌/◌, ◌%◌, ◌≤◌, List, [], ◌∷◌, ◌++◌, ◌∙◌}
use Rattle.std.proofs.Common.{arith, rules, refl, sym, ap, length, take, drop, length-append, length-drop}
use Rattle.std.proofs.Math.Seq.{take-append_seam, drop-append_seam}
use Rattle.std.proofs.lemmas.List.{drop-drop}
use borrow.Author.Tests.{eq-eqb, le-leb}
use Rattle.quantity.specs.declared.Rgb.{Rgb}
use Rattle.quantity.specs.Component.{components}
use Rattle.rows.specs.Row.{sample_at, pixel_at}
use Rattle.rows.proofs.RowLaws.{pixel_of_part}
use Rattle.listing.specs.Text.{lines, row_text, row_text_within}
use Rattle.listing.proofs.TextLaws.{after, room_for, from_start, lines_more, line_short, line_fits}
use Rattle.listing.proofs.list_row.Goals as goal

-- the chunk that comes off the rest of the codes after n others: a pixel, and what is left
module _ (codes chunk left : List ℕ) (n : ℕ) (long : length chunk ≡ 6) (came : drop (6 * n) codes ≡ chunk ++ left) where
  pixel_of_chunk : (p : Rgb ℕ) → (p.red ≡ sample_at chunk 0) × (p.green ≡ sample_at chunk 1) × (p.blue ≡ sample_at chunk 2)
      → components p ≡ pixel_at codes n
  pixel_of_chunk p samples =
      let first : take 6 (drop (6 * n) codes) ≡ chunk = rw (came, ← long) (take-append_seam chunk left) in
      rw (samples.0, samples.1, samples.2) (ap (λ (l : List ℕ). pixel_at l 0) (sym first) ∙ pixel_of_part codes (6 * n) 6 0 n (omega arith) (omega arith))

  rest_after : left ≡ drop (6 * (n + 1)) codes
  rest_after =
      let further : 6 * (n + 1) ≡ 6 * n + 6 = omega arith in
      sym (ap (λ (m : ℕ). drop m codes) further ∙ sym (drop-drop 6 (6 * n) codes) ∙ rw (came, ← long) (drop-append_seam chunk left))

  within_after : 6 * (n + 1) ≤ length codes
  within_after = omega (arith, length-drop (6 * n) codes, ap length came, length-append chunk left)

pub loop-bytes-init : goal.loop-bytes-init
unfolding lines
loop-bytes-init c =
    let items = c.chunks_exact-bytes-items.ensures in
    rw c.into_iter-bytes-iterator.ensures.into_iter_gives (record {
      size = items.size;
      within = omega arith;
      rest = items.rest;
      stored = record { place = refl; bytes = refl };
      short = omega arith;
      same = refl;
    })

pub put_line-requires : goal.put_line-requires
put_line-requires c =
    let bounds = c.pixel_of-p.ensures.bounds in
    let kept = c.loop-bytes.invariant in
    let came = c.in-Some.ensures.steps.1 in
    let n = length c.loop-bytes.yielded in
    let within = within_after c.args.codes.now c.in-Some.bytes.now c.next.new.self.rest.now n (came.1 ∙ kept.size) (sym kept.rest ∙ came.0) in
    room_for kept.stored (line_fits _ (omega (arith, bounds)) (omega (arith, bounds)) (omega (arith, bounds))) (omega (arith, kept.stored.place))

pub loop-bytes-preserved : goal.loop-bytes-preserved
loop-bytes-preserved c =
    let p = c.pixel_of-p.result in
    let line = line_short p.red p.green p.blue c.pixel_of-p.ensures.bounds.0 c.pixel_of-p.ensures.bounds.1 c.pixel_of-p.ensures.bounds.2 in
    let codes = c.args.codes.now in
    let chunk = c.in-Some.bytes.now in
    let left = c.next.new.self.rest.now in
    let kept = c.loop-bytes.invariant in
    let came = c.in-Some.ensures.steps.1 in
    let n = length c.loop-bytes.yielded in
    let long = came.1 ∙ kept.size in
    let whole = sym kept.rest ∙ came.0 in
    let count : length (c.loop-bytes.yielded ++ (c.in-Some.bytes ∷ [])) ≡ n + 1 = simp length-append in
    let pixel = pixel_of_chunk codes chunk left n long whole p c.pixel_of-p.ensures.samples in
    rw count (record {
      size = c.in-Some.ensures.steps.0 ∙ kept.size;
      within = within_after codes chunk left n long whole;
      rest = rest_after codes chunk left n long whole;
      stored = rw lines_more (after kept.stored (rw pixel at c.put_line.ensures.stored));
      short = omega (arith, c.put_line.ensures.stored.place);
      same = c.put_line.ensures.same_buffer ∙ kept.same;
    })

pub returns : goal.returns
unfolding row_text_within row_text
returns c =
    let codes = c.args.codes.now in
    let text = c.args.text.now in
    let kept = c.loop-bytes.invariant in
    let n = length c.loop-bytes.yielded in
    let left = ap (λ (l : List ℕ). length l) kept.rest ∙ length-drop (6 * n) codes in
    let all : n ≡ length codes / 6 = omega (arith, kept.within, c.in-None.ensures.steps.1.0, kept.size, left) in
    let stored = rw all at kept.stored in
    let whole = from_start stored (omega (arith, stored.place)) in
    let sixes : length codes % 6 ≡ 0 = search rules in
    simp (eq-eqb (length codes % 6) 0 sixes, le-leb (18 * (length codes / 6)) (length text) (omega arith)) (whole.0, search rules ∙ whole.1)
