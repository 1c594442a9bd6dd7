-- `position::interpolate` meets its contract: the two parts add up to the whole.
use native.Mathlib.Omega.{arith}
use Rattle.position.proofs.LightLaws.{part_split, part_le}
use Rattle.position.proofs.interpolate.Goals as goal

pub returns : goal.returns
returns c =
    let e = part_split c.args.rise c.args.f in
    (e, omega (arith, e, part_le c.args.rise c.args.f c.requires))
