-- `return_span::near::near_code` meets its contract: a code that is settled between the products of a scene light and the root's bounds is the code.
use Rattle.std.proofs.Common.{◌≡◌, ℕ, refl}
use Rattle.ootf.specs.Light.{display_light}
use Rattle.inverse_eotf.specs.Code.{pq_code}
use Rattle.inverse_eotf.specs.ThresholdTable.{threshold_table}
use Rattle.return_span.specs.Settled.{Settled}
use Rattle.return_span.proofs.NearLaws.{by_root}
use Rattle.return_span.proofs.near.near_code.Goals as goal
use Rattle.return_span.proofs.near.near_code.Goals.{After-upper_word-high}

settles : (c : After-upper_word-high) (d : ℕ) → Settled threshold_table c.upper_word-low.result c.upper_word-high.result d
    → d ≡ pq_code (display_light c.args.y c.args.s)
settles c d =
    let a = c.args in
    let found = c.requires.0 in
    by_root _ a.y a.s a.roots.low a.roots.high _ _ d refl (found.1.low found.0) (found.1.high found.0) c.upper_word-low.ensures c.upper_word-high.ensures

pub returns-then-is_settled : goal.returns-then-is_settled
returns-then-is_settled c = settles (goal.at.returns-then-is_settled c).After-upper_word-high _ (c.is_settled.ensures c.if-is_settled.true)

pub searched_code-requires : goal.searched_code-requires
searched_code-requires c = (c.requires.1, c.requires.2, settles (goal.at.searched_code-requires c).After-upper_word-high)
