-- `content_light::RunRecord::with_pixels` meets its contract: by the last pixel that reaches the bound, or by the bound where no pixel takes over.
use mathlib.Core.Path.{◌≡◌, sym, ap, subst, ◌∙◌}
use mathlib.Core.Bool.{true}
use Prim.Native.Nat.{ℕ}
use native.Mathlib.Omega.{arith}
use Rattle.std.specs.Prelude.{Option}
use Rattle.position.specs.Code.{code_position}
use Rattle.position.proofs.CodeLaws.{position_range}
use Rattle.content_light.proofs.RecordLaws.{most_pixels_lem, counting, only_counted}
use Rattle.content_light.proofs.SearchLaws.{taking, last_taken, none_reaching}
use Rattle.content_light.specs.Peak.{CodedRow, row_in, pixels_of}
use Rattle.content_light.specs.Run.{most_pixels, takes_over, position_of}
use Rattle.content_light.specs.Bounds.{LastReaching}
use Rattle.content_light.proofs.RunRecord.with_pixels.Goals as goal
use Rattle.content_light.proofs.RunRecord.with_pixels.Goals.{After-last_reaching}

pub overflow_add-self : goal.overflow_add-self
overflow_add-self c = omega (arith, most_pixels_lem)

pub last_reaching-requires : goal.last_reaching-requires
last_reaching-requires c = omega (arith, c.code_position-m.ensures, position_range c.args.row.now.format c.args.row.now.most)

-- where the bound takes over, from after the search: the bound's position, and what the search has found
module _ (c : After-last_reaching) where
  abbrev row : CodedRow
  row = row_in c.args.row.now.format c.args.row.now.bytes.now

  over : takes_over c.args.self (code_position c.args.row.now.format c.args.row.now.most) ≡ true
  over = ap (takes_over c.args.self) (sym c.code_position-m.ensures) ∙ sym c.takes_over.ensures ∙ c.if-not-takes_over.false

  last : {found : Option ℕ} → c.last_reaching.result ≡ found → LastReaching row (pixels_of row) (code_position c.args.row.now.format c.args.row.now.most) found
  last e =
      subst (LastReaching row (pixels_of row) (code_position c.args.row.now.format c.args.row.now.most)) e
      (subst (λ (m : ℕ). LastReaching row (pixels_of row) m c.last_reaching.result) c.code_position-m.ensures c.last_reaching.ensures)

pub returns-in-None : goal.returns-in-None
returns-in-None c =
    let b = (goal.at.returns-in-None c).After-last_reaching in
    none_reaching _ (row b) c.args.row.now.bounded (over b) (last b c.in-None.is)

pub returns-in-Some : goal.returns-in-Some
unfolding most_pixels
returns-in-Some c =
    let b = (goal.at.returns-in-Some c).After-last_reaching in
    let rows = c.args.self.rows in
    let j = c.in-Some.j in
    ap (λ (m : ℕ). taking rows c.min-pixels.result m j) c.position_of.ensures
    ∙ ap (λ (pixels : ℕ). taking rows pixels (position_of (row b) j) j) c.min-pixels.ensures
    ∙ last_taken _ (row b) c.args.row.now.bounded (over b) (last b c.in-Some.is) c.requires.0

pub returns-then-not-takes_over : goal.returns-then-not-takes_over
unfolding most_pixels
returns-then-not-takes_over c =
    let position = sym c.code_position-m.ensures in
    let alone = ap (takes_over c.args.self) position ∙ sym c.takes_over.ensures ∙ c.if-not-takes_over.true in
    let row = row_in c.args.row.now.format c.args.row.now.bytes.now in
    ap (counting c.args.self) c.min-pixels.ensures
    ∙ sym (only_counted c.args.self row c.args.row.now.bounded c.requires.0 alone (pixels_of row) (omega arith))
