-- `srgb_hlg::scene::Shared::scene_light` meets its contract: both parts together are rounded down once.
use Rattle.std.proofs.Common.{◌≡◌, arith}
use Rattle.quantity.specs.Component.{components}
use Rattle.srgb_hlg.proofs.ShareLaws.{upper_sum, exactly}
use Rattle.srgb_hlg.proofs.scene.Shared.scene_light.Goals as goal

pub returns : goal.returns
returns c =
    let share = components c.args.self.shares in
    let l = components c.args.lights in
    let upper = c.upper_bits.ensures in
    let e : c.sum_shared-upper.result ≡ upper_sum share l = rw (← upper.0, ← upper.1, ← upper.2) c.sum_shared-upper.ensures in
    omega (arith, e, c.sum_shared-lower.ensures, exactly share l)
