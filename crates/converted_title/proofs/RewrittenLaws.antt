-- A title whose card 17 refuses prints, once the card is rewritten, just the text that it printed before request 12.
use Prim.Native.Nat.{ℕ}
use mathlib.Core.List.{List}
use mathlib.Core.Path.{◌≡◌}
use Rattle.metadata.specs.Card.{card_answer}
use Rattle.metadata.specs.Rewriting.{rewritten}
use Rattle.std.specs.Prelude.{Err}
use Rattle.refusal.specs.declared.Refusal.TheVariants.{NoPeak}
use Rattle.title.proofs.RewrittenLaws.{former_opening, former_rows, opens_as_before, rows_as_before}
use Rattle.converted_title.specs.Title.{text_after, title_text}

-- the text of before
abbrev pub former_text : ℕ → List ℕ → List ℕ
former_text limit title = text_after (former_opening title) limit (former_rows title)

pub text_as_before : (limit : ℕ) (title : List ℕ) → card_answer title ≡ Err NoPeak → title_text limit (rewritten title) ≡ former_text limit title
unfolding title_text
text_as_before limit title unnamed = rw (opens_as_before title unnamed, rows_as_before title unnamed)
