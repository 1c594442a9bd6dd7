-- A title whose card 17 refuses opens, once the card is rewritten, as it did before request 12, and the same rows follow. What it opened as then is said
-- by the card's answer of then.
use Prim.Native.Nat.{ℕ}
use mathlib.Core.List.{List}
use mathlib.Core.Path.{◌≡◌, ◌∙◌}
use lib.ListN.{drop}
use Rattle.metadata.specs.Card.{card_answer, following}
use Rattle.metadata.specs.Rewriting.{rewritten}
use Rattle.std.specs.Prelude.{Result, Err}
use Rattle.refusal.specs.declared.Refusal.{Refusal}
use Rattle.refusal.specs.declared.Refusal.TheVariants.{NoPeak}
use Rattle.metadata.proofs.NoPeakLaws.{former_answer, former_following, same_following}
use Rattle.metadata.proofs.RewritingLaws.{answers_as_before, followed_alike}
use Rattle.title.specs.declared.opening.Layout.{Layout}
use Rattle.title.specs.Opening.{answer_after, opening_answer, rows_of}

abbrev pub former_opening : List ℕ → Result Layout Refusal
former_opening title = answer_after (former_answer title) (former_following title)

abbrev pub former_rows : List ℕ → List ℕ
former_rows title = drop 2 (former_following title)

module _ (title : List ℕ) (unnamed : card_answer title ≡ Err NoPeak) where
  same_bytes : following (rewritten title) ≡ former_following title
  same_bytes = followed_alike title unnamed ∙ same_following title

  pub opens_as_before : opening_answer (rewritten title) ≡ former_opening title
  unfolding opening_answer
  opens_as_before = rw (answers_as_before title unnamed, same_bytes)

  pub rows_as_before : rows_of (rewritten title) ≡ former_rows title
  unfolding rows_of
  rows_as_before = rw same_bytes
