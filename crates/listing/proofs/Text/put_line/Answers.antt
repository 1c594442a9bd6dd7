-- A pixel's line, part by part.
use Rattle.std.proofs.Common.{arith, length-append}
use Rattle.listing.specs.Text.{line}
use Rattle.listing.proofs.TextLaws.{after, length_line, room_after}
use Rattle.listing.proofs.Text.put_line.Goals as goal

pub put_number-requires : goal.put_number-requires
put_number-requires c = omega (arith, rw length_line at c.requires)

pub put-requires : goal.put-requires
put-requires c = room_after 1 c.put_number.ensures.stored (omega (arith, rw length_line at c.requires))

pub put_number-requires-2 : goal.put_number-requires-2
put_number-requires-2 c =
    let red = after c.put_number.ensures.stored c.put.ensures.stored in
    room_after _ red (simp length-append (omega (arith, rw length_line at c.requires)))

pub put-requires-2 : goal.put-requires-2
put-requires-2 c =
    let red = after c.put_number.ensures.stored c.put.ensures.stored in
    room_after 1 (after red c.put_number-2.ensures.stored) (simp length-append (omega (arith, rw length_line at c.requires)))

pub put_number-requires-3 : goal.put_number-requires-3
put_number-requires-3 c =
    let red = after c.put_number.ensures.stored c.put.ensures.stored in
    let green = after (after red c.put_number-2.ensures.stored) c.put-2.ensures.stored in
    room_after _ green (simp length-append (omega (arith, rw length_line at c.requires)))

pub put-requires-3 : goal.put-requires-3
put-requires-3 c =
    let red = after c.put_number.ensures.stored c.put.ensures.stored in
    let green = after (after red c.put_number-2.ensures.stored) c.put-2.ensures.stored in
    room_after 1 (after green c.put_number-3.ensures.stored) (simp length-append (omega (arith, rw length_line at c.requires)))

pub returns-clause-stored : goal.returns-clause-stored
unfolding line
returns-clause-stored c =
    let red = after c.put_number.ensures.stored c.put.ensures.stored in
    let green = after (after red c.put_number-2.ensures.stored) c.put-2.ensures.stored in
    after (after green c.put_number-3.ensures.stored) c.put-3.ensures.stored
