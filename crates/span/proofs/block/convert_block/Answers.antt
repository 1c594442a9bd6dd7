-- `span::block::convert_block` meets its contract: what a pass hands on is what the next asks, and the bytes of the mapped pixels are the row's.
use Rattle.std.proofs.Common.{◌≡◌, ℕ, ◌+◌, ◌-◌, ◌*◌, ◌≤◌, length, sym, ◌∙◌, arith, length-take-le}
use Rattle.quantity.specs.Component.{Pixel}
use Rattle.span.specs.Block.{AllShown}
use Rattle.span.proofs.BlockLaws.{lent_back, all_shown, block_is_pixels}
use Rattle.span.proofs.block.convert_block.Given.{Over}
use Rattle.span.proofs.block.convert_block.Goals as goal
use Rattle.span.proofs.block.convert_block.Goals.{After-map_pixels}

-- the pixels of the row as the first pass maps them
abbrev pixels : (g : Over) → After-map_pixels g → ℕ → Pixel
pixels g c j = g.R.Row.mapping c.args.row.now (g.R.Row.given c.args.row.now j)

abbrev count : (g : Over) → After-map_pixels g → ℕ
count g c = c.args.pixels.end - c.args.pixels.start

filled : (g : Over) (c : After-map_pixels g) → length c.map_pixels.new.mapped ≡ count g c
filled g c = let room : count g c ≤ 32 = omega arith in c.map_pixels.auto.mapped ∙ length-take-le (count g c) _ room

shown : (g : Over) (c : After-map_pixels g) → AllShown c.map_pixels.new.mapped
shown g c = all_shown (λ k. pixels g c (c.args.pixels.start + k)) _ (λ j i. g.met.R.Row.shown c.args.row.now _ i) c.map_pixels.ensures

pub find_roots-requires : goal.find_roots-requires
find_roots-requires g c =
    let d = (goal.at.find_roots-requires g c).After-map_pixels in
    rw (lent_back (count g d) c.map_pixels.new.mapped _ (filled g d)) (shown g d, length-take-le (count g d) _ (omega arith) ∙ sym (filled g d))

pub code_pixels-requires : goal.code_pixels-requires
code_pixels-requires g c =
    let d = (goal.at.code_pixels-requires g c).After-map_pixels in
    let n = count g d in
    let room : n ≤ 32 = omega arith in
    let found : length c.find_roots.new.roots ≡ n = c.find_roots.auto.roots ∙ length-take-le n _ room in
    let dst : length c.args.dst.now ≡ 6 * length c.map_pixels.new.mapped = omega (arith, filled g d) in
    rw (lent_back n c.map_pixels.new.mapped _ (filled g d), lent_back n c.find_roots.new.roots _ found)
    (shown g d, rw (lent_back n c.map_pixels.new.mapped _ (filled g d)) at c.find_roots.ensures, found ∙ sym (filled g d), dst)

pub returns : goal.returns
returns g c =
    let d = (goal.at.returns g c).After-map_pixels in
    rw (lent_back (count g d) c.map_pixels.new.mapped _ (filled g d)) at c.code_pixels.ensures
    ∙ block_is_pixels c.args.format (pixels g d) c.map_pixels.new.mapped c.args.pixels.start (count g d) (filled g d) c.map_pixels.ensures
