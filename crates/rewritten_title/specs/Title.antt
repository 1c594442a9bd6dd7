-- What is told of a title that is to be rewritten (request 12, the program): the refusal of its card, and nothing of a title that is copied. The copy itself
-- is `rewritten` (metadata). A title is a list of bytes, a line one of ASCII bytes.
use Rattle.std.specs.Prelude.{ℕ, List, [], Ok, Err}
use Rattle.refusal.specs.Number.{number}
use Rattle.listing.specs.Text.{refusal_line}
use Rattle.metadata.specs.Rewriting.{Rewriting, rewriting}

abbrev pub told_of : Rewriting → List ℕ
told_of (Ok new) = []
told_of (Err refusal) = refusal_line (number refusal)

unfoldable pub told : List ℕ → List ℕ
told title = told_of (rewriting title)
