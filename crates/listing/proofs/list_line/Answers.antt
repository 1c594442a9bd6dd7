-- Three 64-bit numbers have room in 63 bytes.
use Rattle.std.proofs.Common.{arith, rules, length, ◌≤◌, ◌∙◌}
use borrow.Author.Tests.{le-leb}
use Rattle.quantity.specs.Component.{pixel}
use Rattle.listing.specs.Text.{line, line_within}
use Rattle.listing.proofs.TextLaws.{from_start, line_within_lem}
use Rattle.listing.proofs.list_line.Goals as goal
use Rattle.listing.proofs.list_line.Goals.{Start}

short : (s : Start) → length (line (pixel s.args.first s.args.second s.args.third)) ≤ 63
short s =
    line_within_lem s.args.first s.args.second s.args.third
    (omega (arith, s.ranges.first)) (omega (arith, s.ranges.second)) (omega (arith, s.ranges.third))

pub put_line-requires : goal.put_line-requires
put_line-requires c = omega (arith, short (goal.at.put_line-requires c).Start)

pub returns : goal.returns
unfolding line_within
returns c =
    let whole = from_start c.put_line.ensures.stored (omega (arith, short (goal.at.returns c).Start)) in
    simp (le-leb _ _ c.if-text-lt63.false) (whole.0, search rules ∙ whole.1)
