-- Each read adds to what came. The measure is what is left of the buffer.
use Rattle.std.proofs.Common.{◌≡◌, ◌-◌, ◌≤◌, arith, length, drop, length-take, length-drop, ◌∙◌, subst}
use Rattle.std.specs.Io.KnownBytes.{Consumes}
use Rattle.std.proofs.KnownBytes.{Consumes-trans}
use borrow.Rule.Slice.PartMut.{same_len_mid}
use Rattle.title.proofs.PartLaws.{part_written}
use Rattle.title.proofs.streams.Input.read.Goals as goal

pub loop-done-preserved : goal.loop-done-preserved
loop-done-preserved g c =
    let from = c.loop-done.done in
    let old = c.loop-done.buffer in
    let room = length old - from in
    let read = c.read_some-more.new.buffer in
    let kept = same_len_mid from room old read c.read_some-more.auto.buffer in
    let length_read : length read ≡ room = c.read_some-more.auto.buffer ∙ omega (arith, length-take room (drop from old), length-drop from old) in
    let fits : c.read_some-more.result ≤ length read = omega (arith, c.read_some-more.ensures.within, length_read) in
    let front = part_written from room c.read_some-more.result old read c.loop-done.invariant.within fits in
    record {
      room = kept ∙ c.loop-done.invariant.room;
      within = omega (arith, kept, fits, length_read);
      bytes = subst (Consumes _ _) front (Consumes-trans _ _ _ _ _ c.loop-done.invariant.bytes c.read_some-more.ensures.bytes);
      same = c.read_some-more.ensures.same_stream ∙ c.loop-done.invariant.same;
      errors = c.read_some-more.ensures.same_errors ∙ c.loop-done.invariant.errors;
      program = c.read_some-more.ensures.same_program ∙ c.loop-done.invariant.program;
    }
