-- The PQ code of a scene light by the two thresholds that enclose it: both are compared in fifth powers, and no display light is searched for.
use mathlib.Core.Path.{◌≡◌}
use mathlib.Core.Bool.{Bool, ◌&&◌}
use Prim.Native.Nat.{ℕ, ◌+◌, ◌-◌, ◌*◌, ◌≤◌, ◌<◌}
use native.Mathlib.Nat.{le_refl}
use native.Mathlib.Omega.{arith}
use lib.Dec.{T, leb, ltb, leb→le, ltb→lt}
use lib.Ieee.Fits.{and_l, and_r}
use Rattle.pq.proofs.EntryLaws.{entry_le}
use Rattle.ootf.specs.Light.{light_side, scene_side, display_light}
use Rattle.ootf.proofs.LightLaws.{reached_le, missed_above}
use Rattle.inverse_eotf.specs.Code.{threshold_light, pq_code}
use Rattle.inverse_eotf.proofs.CodeLaws.{settled}

pub code_between : (Y S D : ℕ) → 64 ≤ D → D ≤ 940
    → (64 < D → light_side (threshold_light D) ≤ scene_side Y S) → (D < 940 → scene_side Y S < light_side (threshold_light (D + 1)))
    → D ≡ pq_code (display_light Y S)
code_between Y S D from to reached missed =
    let c = display_light Y S in
    settled c c c D (le_refl c) (le_refl c) from to
    (λ h. reached_le Y S (threshold_light D) (entry_le (4 * (D - 64) - 2)) (reached h))
    (λ h. missed_above Y S (threshold_light (D + 1)) (missed h))

-- the same as a test that can be computed, of a code below 940; the threshold of 64 is 0, which every light reaches
abbrev pub between : ℕ → ℕ → ℕ → Bool
between Y S D =
    leb 64 D && (ltb D 940 && (leb (light_side (threshold_light D)) (scene_side Y S) && ltb (scene_side Y S) (light_side (threshold_light (D + 1)))))

pub between→ : (Y S D : ℕ) → T (between Y S D) → D ≡ pq_code (display_light Y S)
between→ Y S D t =
    let from = leb 64 D in
    let to = ltb D 940 in
    let reached = leb (light_side (threshold_light D)) (scene_side Y S) in
    let missed = ltb (scene_side Y S) (light_side (threshold_light (D + 1))) in
    let inside = and_r from (to && (reached && missed)) t in
    let sides = and_r to (reached && missed) inside in
    let below = ltb→lt D 940 (and_l to (reached && missed) inside) in
    code_between Y S D (leb→le 64 D (and_l from (to && (reached && missed)) t)) (omega arith) (λ h. leb→le _ _ (and_l reached missed sides))
    (λ h. ltb→lt _ _ (and_r reached missed sides))
