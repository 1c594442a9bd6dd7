-- `content_light::row::BoundedRow::of` meets its contract.
use Rattle.std.proofs.Common.{◌≡◌, sym, ap, subst, ◌∙◌, arith, ℕ, ◌+◌, ◌-◌, ◌*◌, ◌/◌, ◌<◌, ◌≤◌, List, ◌++◌, length, length-append, length-drop, take, drop}
use Rattle.std.proofs.Common.{drop-drop}
use Rattle.std.proofs.Math.Seq.{take-append_seam, drop-append_seam}
use Rattle.rows.specs.Row.{sample_at}
use Rattle.rows.proofs.RowLaws.{sample_of_part}
use Rattle.content_light.specs.Bounds.{Bounded}
use Rattle.content_light.proofs.BoundLaws.{next_bounded}
use Rattle.content_light.proofs.row.BoundedRow.of.Goals as goal

-- six bytes that come first of what is left behind b bytes
module _ (row bytes rest : List ℕ) (b : ℕ) (e : drop b row ≡ bytes ++ rest) (six : length bytes ≡ 6) where
  same : bytes ≡ take 6 (drop b row)
  same = sym (rw (e, sym six) (take-append_seam bytes rest))

  left : rest ≡ drop (b + 6) row
  left = sym (sym (drop-drop 6 b row) ∙ rw (e, sym six) (drop-append_seam bytes rest))

  room : b ≤ length row → b + 6 ≤ length row
  room h =
      let all : length row - b ≡ length bytes + length rest = sym (length-drop b row) ∙ ap (λ (l : List ℕ). length l) e ∙ length-append bytes rest in
      omega (arith, six)

  sample : (i m : ℕ) → b + 2 * i ≡ 2 * m → 2 * i + 1 < 6 → sample_at bytes i ≡ sample_at row m
  sample i m at h = ap (λ (l : List ℕ). sample_at l i) same ∙ sample_of_part row b 6 i m at h

pub loop-pixel-preserved : goal.loop-pixel-preserved
loop-pixel-preserved c =
    let row = c.args.bytes.now in
    let before = c.loop-pixel.invariant in
    let k = length c.loop-pixel.yielded in
    let steps = c.in-Some.ensures.steps in
    let bytes = c.in-Some.pixel.now in
    let rest = c.next.new.self.rest.now in
    let e = sym before.left ∙ steps.1.0 in
    let six = steps.1.1 ∙ before.size in
    let p = c.pixel_of-p.ensures.samples in
    let red = p.0 ∙ sample row bytes rest (6 * k) e six 0 (3 * k) (omega arith) (omega arith) in
    let green = p.1 ∙ sample row bytes rest (6 * k) e six 1 (3 * k + 1) (omega arith) (omega arith) in
    let blue = p.2 ∙ sample row bytes rest (6 * k) e six 2 (3 * k + 2) (omega arith) (omega arith) in
    let more : 6 * k + 6 ≡ 6 * (k + 1) = omega arith in
    rw (length-append)
    (record {
      bounded = rw (c.max-most.ensures, c.brightest.ensures, c.min-least.ensures, c.min-in-loop-pixel.ensures, c.min.ensures)
          (next_bounded before.bounded red green blue);
      size = steps.0 ∙ before.size;
      left = left row bytes rest (6 * k) e six ∙ ap (λ (n : ℕ). drop n row) more;
      within = omega (arith, room row bytes rest (6 * k) e six before.within);
    })

pub invariant_of-result : goal.invariant_of-result
invariant_of-result c =
    let row = c.args.bytes.now in
    let at_end = c.loop-pixel.invariant in
    let k = length c.loop-pixel.yielded in
    let fewer = c.in-None.ensures.steps.1.0 in
    let rest : length c.loop-pixel.pixel-iterator.rest.now ≡ length row - 6 * k = ap (λ (l : List ℕ). length l) at_end.left ∙ length-drop (6 * k) row in
    let all : k ≡ length row / 6 = omega (arith, at_end.within, at_end.size) in
    record { bounded = subst (λ (n : ℕ). Bounded row n c.loop-pixel.least c.loop-pixel.most) all at_end.bounded }
