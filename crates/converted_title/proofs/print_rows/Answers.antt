-- Each piece lies within the text buffer and leaves fewer rows. The measure is the rows that are still to be read.
use borrow.Author.Rules.{rules}
use Rattle.converted_title.proofs.NextRowLaws.{fewer_left}
use Rattle.converted_title.proofs.print_rows.Goals as goal

pub loop-left-smaller : goal.loop-left-smaller
loop-left-smaller g c = fewer_left c.list_next_row-piece.ensures (search rules)
