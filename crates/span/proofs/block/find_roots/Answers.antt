-- `span::block::find_roots` meets its contract. The invariant: the pixels so far have roots, and what is kept is a root of the last luminance.
use Rattle.std.proofs.Common.{◌≡◌, ℕ, ◌∙◌, subst, arith, length-set, below_none}
use Rattle.hlg.specs.Root.{IsRoot}
use Rattle.span.specs.Block.{AllShown, RootsTo, luminance_of, pixel_at}
use Rattle.span.proofs.BlockLaws.{no_root, written}
use Rattle.span.proofs.block.find_roots.Goals as goal
use Rattle.span.proofs.block.find_roots.Goals.{then-next-luminance, else-next-luminance}

pub loop-k-init : goal.loop-k-init
loop-k-init c = (c.requires.1, below_none _, no_root 0)

pub weigh-next-requires : goal.weigh-next-requires
unfolding AllShown
weigh-next-requires c = c.requires.0 _ (omega arith)

pub loop-k-preserved : goal.loop-k-preserved
loop-k-preserved c =
    let before = c.loop-k.invariant in
    let y = c.if-next-luminance.luminance in
    let found = c.if-next-luminance.found in
    let now : IsRoot found y =
    elim c.if-next-luminance.branch [
      | then-next-luminance w ↦ rw (w.found-is, w.luminance-is) w.stored_root-found.ensures
      | else-next-luminance w ↦ rw (w.found-is, w.luminance-is) before.2
    ] in
    let same : y ≡ c.weigh-next.result =
    elim c.if-next-luminance.branch [
      | then-next-luminance w ↦ omega (arith, w.luminance-is)
      | else-next-luminance w ↦ omega (arith, w.luminance-is, w.if-next-luminance.false)
    ] in
    let here = subst (IsRoot found) (same ∙ c.weigh-next.ensures) now in (
      simp length-set before.0,
      written (λ (j g : ℕ). IsRoot g (luminance_of (pixel_at c.args.mapped.now j))) 0 _ c.loop-k.k found (omega arith) before.1 here,
      now,
    )

pub returns : goal.returns
unfolding RootsTo
returns c = λ j h. c.loop-k.invariant.1 j (omega arith)
