-- No lower fraction of an HLG signal exceeds an upper one, for every peak and component: from sound fractions, then of codes and of lights.
use mathlib.Core.Logic.{inl, inr}
use Prim.Native.Nat.{ℕ, ◌<◌}
use native.Mathlib.Omega.{arith}
use Rattle.laws.specs.Fraction.{Fraction, ◌≼◌}
use Rattle.laws.specs.Side.{low, high}
use Rattle.laws.proofs.FractionLaws.{zero-≼}
use Rattle.quantity.specs.declared.sample_format.SampleFormat.{SampleFormat}
use Rattle.quantity.specs.Component.{Component, Pixel}
use Rattle.hlg_steps.specs.Steps.{scene}
use Rattle.hlg_steps.proofs.SignalLaws as hlg
use Rattle.exact.specs.ExactValue.{Given, of_codes, of_lights, Signal}
use Rattle.exact.proofs.BentLaws.{Sound}
use Rattle.exact.proofs.SceneLaws.{scene_lights_apart}
use Rattle.exact.proofs.CodeLaws.{codes_sound}
use Rattle.exact.proofs.LinearLaws.{lights_sound}

pub ordered : {G : Given} → Sound G → (peak : ℕ) (i : Component) {g h : Fraction} → Signal G low peak i g → Signal G high peak i h → g ≼ h
unfolding Signal
ordered S peak i {g} {h} (inl a) b = zero-≼ h (omega (arith, a.1))
ordered S peak i (inr a) (inl b) = absurd (omega (arith, a.0, b.0))
ordered S peak i {g} {h} (inr a) (inr b) =
    let E = scene a.1.0 in
    let F = scene b.1.0 in
    let grows : E ≼ F = record { cross = omega (arith, (scene_lights_apart S _ _ a.0 a.1.1 b.1.1).cross) } in
    hlg.signal_ordered F g h (hlg.signal_of_more E F g grows a.1.2) b.1.2

pub signal_ordered : (f : SampleFormat) (peak : ℕ) (p : Pixel) (i : Component) {g h : Fraction}
    → Signal (of_codes f p) low peak i g → Signal (of_codes f p) high peak i h → g ≼ h
signal_ordered f peak p = ordered (codes_sound f p) peak

pub lights_ordered : (v : Pixel) (z : ℕ) (pos : 0 < z) (peak : ℕ) (i : Component) {g h : Fraction}
    → Signal (of_lights v z pos) low peak i g → Signal (of_lights v z pos) high peak i h → g ≼ h
lights_ordered v z pos = ordered (lights_sound v z pos)
