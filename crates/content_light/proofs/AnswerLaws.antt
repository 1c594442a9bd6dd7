-- What a call for a row answers where all rows are counted.
use mathlib.Core.Path.{◌≡◌, sym}
use Prim.Native.Nat.{min, ◌≤◌}
use native.Mathlib.Omega.{arith}
use borrow.Author.Tests.{le-leb}
use Rattle.std.specs.Prelude.{Err}
use Rattle.refusal.specs.declared.Refusal.TheVariants.{RowCount}
use Rattle.content_light.specs.declared.RunRecord.{RunRecord}
use Rattle.content_light.specs.Peak.{CodedRow, most_rows, row_test}
use Rattle.content_light.specs.Run.{record_answer}

pub all_counted : (r : RunRecord) (row : CodedRow) → most_rows ≤ r.rows → Err RowCount ≡ record_answer r row
unfolding record_answer row_test
all_counted r row h = sym (simp (le-leb most_rows (min r.rows most_rows) (omega arith)))
