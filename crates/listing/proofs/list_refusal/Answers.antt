-- The word, the number and the line feed, one after another, have room in 29 bytes.
use Rattle.std.proofs.Common.{arith, rules, length-append, ◌∙◌}
use borrow.Author.Tests.{le-leb}
use Rattle.listing.specs.Text.{refusal_line, refusal_line_within}
use Rattle.listing.proofs.TextLaws.{after, from_start, length_decimal, refusal_short, room_after}
use Rattle.listing.proofs.list_refusal.Goals as goal

pub put_number-requires : goal.put_number-requires
put_number-requires c =
    let digits = length_decimal 19 c.args.number (omega (arith, c.ranges.number)) in
    room_after _ c.put.ensures.stored (omega arith)

pub put-requires-2 : goal.put-requires-2
put-requires-2 c =
    let digits = length_decimal 19 c.args.number (omega (arith, c.ranges.number)) in
    room_after 1 (after c.put.ensures.stored c.put_number.ensures.stored) (simp length-append (omega arith))

pub returns : goal.returns
unfolding refusal_line_within refusal_line
returns c =
    let short = refusal_short c.args.number (omega (arith, c.ranges.number)) in
    let parts = after (after c.put.ensures.stored c.put_number.ensures.stored) c.put-2.ensures.stored in
    let whole = from_start parts (omega (arith, short)) in
    simp (le-leb _ _ c.if-text-lt29.false) (whole.0, search rules ∙ whole.1)
