-- `span::block::map_pixels` meets its contract. The invariant: the pixels so far are mapped, and what is kept is what the last is mapped to.
use Rattle.std.proofs.Common.{◌≡◌, ℕ, ◌+◌, sym, ◌∙◌, ap, arith, length-set, below_none}
use Rattle.quantity.specs.declared.Rgb.{Rgb}
use Rattle.quantity.specs.Component.{components}
use Rattle.span.specs.Block.{dark, MappedTo}
use Rattle.span.proofs.BlockLaws.{kept, written}
use Rattle.span.proofs.block.map_pixels.Goals as goal

pub loop-k-init : goal.loop-k-init
loop-k-init g c = (c.requires.0, below_none _, rw c.black-black.ensures (sym (g.met.R.Row.black_dark c.args.row.now)))

pub overflow_add-first : goal.overflow_add-first
overflow_add-first g c = omega arith

pub loop-k-preserved : goal.loop-k-preserved
loop-k-preserved g c =
    let row = c.args.row.now in
    let next = c.next-last in
    let before = c.loop-k.invariant in
    let now : components next.result.found ≡ g.R.Row.mapping row (components c.at.result) =
    kept (λ (p v : Rgb ℕ). components v ≡ g.R.Row.mapping row (components p)) before.2 next.ensures.found (λ x. x.1) in
    let here : components next.result.found ≡ g.R.Row.mapping row (g.R.Row.given row (c.args.first + c.loop-k.k)) =
    now ∙ ap (g.R.Row.mapping row) c.at.ensures.given in (
      simp length-set before.0,
      written (λ (j : ℕ) (m : Rgb ℕ). components m ≡ g.R.Row.mapping row (g.R.Row.given row (c.args.first + j))) dark _ _ _ (omega arith) before.1 here,
      rw next.ensures.pixel now,
    )

pub returns : goal.returns
unfolding MappedTo
returns g c = λ j h. c.loop-k.invariant.1 j (omega arith)
