-- Scene light enclosed on either side, from the comparison without its common factor.
use mathlib.Core.Path.{◌≡◌, sym, subst, subst₂}
use Prim.Native.Nat.{ℕ, ◌*◌, ◌^◌, ◌≤◌, ◌<◌}
use native.Mathlib.Nat.{mul-one, mul-le-mul_left}
use native.Mathlib.Omega.{arith}
use Rattle.laws.specs.Fraction.{over, ◌·◌, ◌↑◌}
use Rattle.laws.specs.Side.{Side, low, high, At, Bounds}
use Rattle.quantity.specs.Units.{thousand}
use Rattle.quantity.specs.Component.{Pixel, weighted}
use Rattle.hlg_steps.specs.Steps.{scene}
use Rattle.exact.specs.ExactValue.{relative, luminance}
use Rattle.hlg.proofs.CancelledLaws.{C, K, scene_left, scene_right}

-- n / d is a result, y / z a luminance, both in units
abbrev pub Scaled : Side → ℕ → ℕ → ℕ → ℕ → ℕ → Type 0
Scaled s e n d y z = At s (e ^ 6 * K * y * d ^ 6) (C * n ^ 6 * z)

pub scene_bounds : (s : Side) (e n d : ℕ) (dp : 0 < d) (r : Pixel) (z : ℕ) (zp : 0 < z) → Scaled s e n d (weighted r) z
    → Bounds s (scene e ↑ 6 · luminance r z zp) (relative (over n d dp) ↑ 6)
scene_bounds s e n d dp r z zp h = go s h
  where
    left : 2 ^ 135 * 625 * 16777216000 * (e ^ 6 * K * weighted r * d ^ 6) ≡ e ^ 6 * (weighted r * 1 * 1) * (d * thousand) ^ 6
    left = subst (λ y. 2 ^ 135 * 625 * 16777216000 * (e ^ 6 * K * weighted r * d ^ 6) ≡ e ^ 6 * y * (d * thousand) ^ 6) (omega arith)
        (scene_left (e ^ 6) (weighted r) d)

    right : 2 ^ 135 * 625 * 16777216000 * (C * n ^ 6 * z) ≡ (n * 1) ^ 6 * ((2 ^ 40) ^ 6 * (z * thousand * 10000))
    right = subst (λ y. 2 ^ 135 * 625 * 16777216000 * (C * n ^ 6 * z) ≡ y ^ 6 * ((2 ^ 40) ^ 6 * (z * thousand * 10000))) (sym (mul-one n))
        (scene_right (n ^ 6) z)

    go : (s : Side) → Scaled s e n d (weighted r) z → Bounds s (scene e ↑ 6 · luminance r z zp) (relative (over n d dp) ↑ 6)
    go low h = subst₂ ◌≤◌ left right (mul-le-mul_left (2 ^ 135 * 625 * 16777216000) h)
    go high h = subst₂ ◌≤◌ right left (mul-le-mul_left (2 ^ 135 * 625 * 16777216000) h)
