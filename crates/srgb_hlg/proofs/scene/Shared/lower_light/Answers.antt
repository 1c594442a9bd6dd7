-- `srgb_hlg::scene::Shared::lower_light` meets its contract: what the lower bits and the weights leave out is at most `spread`.
use Rattle.std.proofs.Common.{◌≡◌, arith}
use Rattle.quantity.specs.Component.{components}
use Rattle.srgb_hlg.proofs.ShareLaws.{upper_sum, upper_le, weights_fit, weights_below, weights_above}
use Rattle.srgb_hlg.proofs.scene.Shared.lower_light.Goals as goal

pub returns : goal.returns
returns c =
    let a = c.args in
    let share = components a.self.shares in
    let w = components a.self.weights in
    let l = components a.lights in
    let upper = c.upper_bits.ensures in
    let e : c.sum_shared.result ≡ upper_sum w l = rw (← upper.0, ← upper.1, ← upper.2) c.sum_shared.ensures in
    let fit = c.requires.0 in
    let weights = c.requires.1 in (
      omega (arith, e, weights_below share w l fit weights),
      omega (arith, e, weights_above share w l fit weights),
      omega (arith, e, upper_le w l (weights_fit share w l fit weights)),
    )

pub sum_shared-requires : goal.sum_shared-requires
sum_shared-requires c =
    let a = c.args in
    let share = components a.self.shares in
    let w = components a.self.weights in
    let l = components a.lights in
    let upper = c.upper_bits.ensures in
    rw (upper.0, upper.1, upper.2) (omega (arith, upper_le w l (weights_fit share w l c.requires.0 c.requires.1)))
