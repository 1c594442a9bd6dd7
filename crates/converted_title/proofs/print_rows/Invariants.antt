use Rattle.converted_title.proofs.print_rows.Given as goal

-- how many rows are left
abbrev pub decreases-loop-left : goal.decreases-loop-left
decreases-loop-left g l = l.left
