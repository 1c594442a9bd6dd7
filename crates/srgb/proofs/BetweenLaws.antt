-- The code of a scene light by the two steps that enclose it.
use mathlib.Core.Path.{◌≡◌, sym}
use mathlib.Core.Bool.{Bool, ◌&&◌}
use Prim.Native.Nat.{ℕ, ◌+◌, ◌<◌}
use native.Mathlib.Nat.{le_refl}
use native.Mathlib.Omega.{arith}
use lib.Dec.{T, leb, ltb, leb→le, ltb→lt}
use lib.Ieee.Fits.{and_l, and_r}
use Rattle.laws.proofs.ThresholdLaws as threshold
use Rattle.hlg_steps.specs.StepTable.{step}
use Rattle.hlg_steps.proofs.StepLaws.{steps_grow}
use Rattle.srgb.proofs.PixelLaws.{step_code}

-- the step of d is reached and the next one is not: a test that can be computed, of codes below 1,019
abbrev pub between : ℕ → ℕ → Bool
between s d = leb 64 d && (ltb d 1019 && (leb (step d) s && ltb s (step (d + 1))))

pub between→ : (s d : ℕ) → T (between s d) → step_code s ≡ d
between→ s d t =
    let from = leb 64 d in
    let to = ltb d 1019 in
    let reached = leb (step d) s in
    let missed = ltb s (step (d + 1)) in
    let inside = and_r from (to && (reached && missed)) t in
    let sides = and_r to (reached && missed) inside in
    let below : d < 1019 = ltb→lt d 1019 (and_l to (reached && missed) inside) in
    sym (threshold.settled step 64 955 steps_grow s s s d (le_refl s) (le_refl s)
    (leb→le 64 d (and_l from (to && (reached && missed)) t))
    (omega arith)
    (λ h. leb→le (step d) s (and_l reached missed sides))
    (λ h. ltb→lt s (step (d + 1)) (and_r reached missed sides)))
