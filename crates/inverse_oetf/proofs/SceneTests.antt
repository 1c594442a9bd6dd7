-- The computed test of one scene light, what a passed test shows of it, and the one pass of the test over the table. That the signal half a
-- unit above is not the code's needs no test: no scene light of a code is an exact half, and no code's signal is c.
use mathlib.Core.Path.{◌≡◌}
use mathlib.Core.Bool.{Bool, ◌&&◌}
use mathlib.Core.Logic.{inl, inr}
use Prim.Native.Nat.{ℕ, ◌+◌, ◌-◌, ◌*◌, ◌^◌}
use native.Mathlib.Nat.{not-le_of_lt}
use native.Mathlib.Omega.{arith}
use lib.Dec.{T}
use lib.Ieee.Fits.{and_l, and_r}
use Rattle.laws.specs.Side.{low, high}
use Rattle.laws.proofs.ComputedTests.{every}
use Rattle.hlg_steps.specs.Exponential.{sum_num, sum_den}
use Rattle.hlg_steps.specs.Signal.{inner_num, inner_den, above_c, below_c, slope, HlgSignal}
use Rattle.hlg_steps.proofs.SignalTests.{signal_test, signal_test_lem}
use Rattle.hlg_steps.proofs.LogarithmLaws.{logarithm_both}
use Rattle.inverse_oetf.specs.SceneLight.{hlg_signal, lower_end, upper_end, IsSceneLight}
use Rattle.inverse_oetf.specs.SceneTable.{scene_table}

-- the signal of code d is an upper fraction half a unit below s, and a lower one half a unit above
abbrev pub scene_test : ℕ → ℕ → Bool
scene_test d s = signal_test high (lower_end s) (hlg_signal d) && signal_test low (upper_end s) (hlg_signal d)

-- ---- no signal of a code is both a lower and an upper fraction half a unit above
-- on the square branch 2^41 divides the signal's side of the equality, but no power of 2 above 2^4 the light's
not_half : (q s : ℕ) → q * 2 ^ 41 ≡ 3 * (2 * s + 1) * 876 ^ 2 → ⊥
not_half q s e = omega arith

-- on the logarithm it would be c
not_c : (d : ℕ) → above_c (hlg_signal d) ≡ 0 → below_c (hlg_signal d) ≡ 0 → ⊥
unfolding above_c below_c
not_c d h k = omega arith

not_both : (d s : ℕ) → HlgSignal low (upper_end s) (hlg_signal d) → HlgSignal high (upper_end s) (hlg_signal d) → ⊥
unfolding HlgSignal
not_both d s (inl a) (inl b) = not_half ((d - 64) * (d - 64)) s (omega (arith, a.1, b.1))
not_both d s (inl a) (inr b) = not-le_of_lt b.0 a.0
not_both d s (inr a) (inl b) = not-le_of_lt a.0 b.0
not_both d s (inr a) (inr b) = let at_c = logarithm_both (upper_end s) (hlg_signal d) a.1 b.1 in not_c d at_c.0 at_c.1

-- ---- the test, and the pass
pub scene_test_lem : (d s : ℕ) → T (scene_test d s) → IsSceneLight d s
scene_test_lem d s t =
    let below = signal_test high (lower_end s) (hlg_signal d) in
    let above = signal_test low (upper_end s) (hlg_signal d) in
    let to = signal_test_lem low (upper_end s) (hlg_signal d) (and_r below above t) in
    record {
      from = signal_test_lem high (lower_end s) (hlg_signal d) (and_l below above t);
      to = to;
      not_at = not_both d s to;
    }

pub lights_pass : T (every scene_test 64 scene_table)
unfolding sum_num sum_den inner_num inner_den above_c below_c slope scene_table
lights_pass = tt
