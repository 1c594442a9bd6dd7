-- A title whose card 17 refuses measures, once the card is rewritten, what it measured before request 12.
use Prim.Native.Nat.{ℕ}
use mathlib.Core.List.{List}
use mathlib.Core.Path.{◌≡◌}
use Rattle.metadata.specs.Card.{card_answer}
use Rattle.metadata.specs.Rewriting.{rewritten}
use Rattle.std.specs.Prelude.{Err}
use Rattle.refusal.specs.declared.Refusal.TheVariants.{NoPeak}
use Rattle.title.proofs.RewrittenLaws.{former_opening, former_rows, opens_as_before, rows_as_before}
use Rattle.measured_title.specs.Title.{title_line_after, title_line}

-- the line of before
abbrev pub former_line : ℕ → List ℕ → List ℕ
former_line limit title = title_line_after (former_opening title) limit (former_rows title)

pub line_as_before : (limit : ℕ) (title : List ℕ) → card_answer title ≡ Err NoPeak → title_line limit (rewritten title) ≡ former_line limit title
unfolding title_line
line_as_before limit title unnamed = rw (opens_as_before title unnamed, rows_as_before title unnamed)
