-- The computed test of one HLG step, what a passed test shows of it, and the one pass of the test over the table.
use mathlib.Core.Path.{◌≡◌, refl}
use mathlib.Core.Bool.{Bool, true, false, ◌&&◌}
use mathlib.Core.Logic.{inl, inr}
use Prim.Native.Nat.{ℕ, ◌-◌, ◌*◌, ◌^◌, ◌≤◌, ◌<◌}
use native.Mathlib.Nat.{le_of_lt, not-le_of_lt}
use native.Mathlib.Decide.{dec_le}
use native.Mathlib.Omega.{arith}
use lib.Dec.{T, leb, ltb, leb→le, ltb→lt}
use lib.Ieee.Fits.{and_l, and_r}
use borrow.Author.Tests.{leb-true, leb-false}
use Rattle.laws.specs.Fraction.{◌≼◌}
use Rattle.laws.specs.Side.{low, high}
use Rattle.laws.proofs.PowerLaws.{second}
use Rattle.laws.proofs.ComputedTests.{every}
use Rattle.hlg_steps.specs.Exponential.{sum_num, sum_den}
use Rattle.hlg_steps.specs.Signal.{inner_num, inner_den, above_c, below_c, slope, Logarithm, HlgSignal}
use Rattle.hlg_steps.specs.Steps.{scene, threshold_signal, Threshold, IsStep}
use Rattle.hlg_steps.specs.StepTable.{step_table}
use Rattle.hlg_steps.proofs.SignalTests.{logarithm_test, logarithm_test_lem}
use Rattle.hlg_steps.proofs.LogarithmLaws.{logarithm_of_more, logarithm_both}

-- the two sides of the square branch's inequality: that of code d, and that of light u
abbrev signal_side : ℕ → ℕ
signal_side d = (threshold_signal d).num ^ 2 * 2 ^ 40

abbrev light_side : ℕ → ℕ
light_side u = 3 * u * 1752 ^ 2

-- the step t of code d reaches e and t − 1 does not; both lights are on the side of 1/12 that the code's branch has
abbrev square_test : ℕ → ℕ → Bool
square_test d t = leb (signal_side d) (light_side t) && (ltb (light_side (t - 1)) (signal_side d) && leb (12 * t) (2 ^ 40))

abbrev curve_test : ℕ → ℕ → Bool
curve_test d t =
    logarithm_test low (scene t) (threshold_signal d) && (logarithm_test high (scene (t - 1)) (threshold_signal d) && ltb (2 ^ 40) (12 * (t - 1)))

abbrev by_code : Bool → ℕ → ℕ → Bool
by_code true d t = square_test d t
by_code false d t = curve_test d t

abbrev pub step_test : ℕ → ℕ → Bool
step_test d t = by_code (leb d 502) d t

-- what a passed test shows
pub record Passed (d t : ℕ) : Type 0 where
  pub rule : IsStep d t
  pub signal_low : HlgSignal low (scene t) (threshold_signal d)
  pub signal_high : HlgSignal high (scene (t - 1)) (threshold_signal d)

-- ---- the square branch
square_smallest : (Q t u : ℕ) → light_side (t - 1) < Q → Q ≤ light_side u → t ≤ u
square_smallest Q t u h k = omega arith

square_passed : (d t : ℕ) → d ≤ 502 → signal_side d ≤ light_side t → light_side (t - 1) < signal_side d → 12 * t ≤ 2 ^ 40 → Passed d t
unfolding Threshold HlgSignal
square_passed d t l reach miss dark =
    let missed : light_side (t - 1) ≤ signal_side d = le_of_lt miss in
    record {
      rule =
          record {
            reached = inl (l, reach);
            smallest = smallest;
            short = inl (l, missed);
          };
      signal_low = inl (dark, rw (second (threshold_signal d).num) at reach);
      signal_high = inl (omega arith, rw (second (threshold_signal d).num) at missed);
    }
  where
    smallest : (u : ℕ) → Threshold low d u → t ≤ u
    smallest u (inl k) = square_smallest (signal_side d) t u miss k.1
    smallest u (inr k) = absurd (not-le_of_lt k.0 l)

-- ---- the logarithm
-- e is never c
not_c : (d : ℕ) → above_c (threshold_signal d) ≡ 0 → below_c (threshold_signal d) ≡ 0 → ⊥
unfolding above_c below_c
not_c d h k = omega arith

pub scene_grows : (u t : ℕ) → u ≤ t → scene u ≼ scene t
scene_grows u t h = record { cross = omega arith }

curve_passed : (d t : ℕ) → 502 < d → Logarithm low (scene t) (threshold_signal d) → Logarithm high (scene (t - 1)) (threshold_signal d) → 2 ^ 40 < 12 * (t - 1)
    → Passed d t
unfolding Threshold HlgSignal
curve_passed d t l reach miss bright =
    record {
      rule =
          record {
            reached = inr (l, reach);
            smallest = smallest;
            short = inr (l, miss);
          };
      signal_low = inr (omega arith, reach);
      signal_high = inr (bright, miss);
    }
  where
    none : (u : ℕ) → u ≤ t - 1 → Logarithm low (scene u) (threshold_signal d) → ⊥
    none u h k =
        let at_c =
        logarithm_both (scene (t - 1)) (threshold_signal d) (logarithm_of_more (scene u) (scene (t - 1)) (threshold_signal d) (scene_grows u (t - 1) h) k) miss
        in
        not_c d at_c.0 at_c.1

    smallest : (u : ℕ) → Threshold low d u → t ≤ u
    smallest u (inl k) = absurd (not-le_of_lt l k.0)
    smallest u (inr k) = go (dec_le t u)
      where
        go : Dec (t ≤ u) → t ≤ u
        go (yes y) = y
        go (no y) = absurd (none u (omega arith) k.1)

-- ---- both, and the pass
pub step_test_lem : (d t : ℕ) → T (step_test d t) → Passed d t
step_test_lem d t x = go (leb d 502) refl x
  where
    go : (b : Bool) → leb d 502 ≡ b → T (by_code b d t) → Passed d t
    go true e x =
        let reach = leb (signal_side d) (light_side t) in
        let miss = ltb (light_side (t - 1)) (signal_side d) in
        let dark = leb (12 * t) (2 ^ 40) in
        let y = and_r reach (miss && dark) x in
        square_passed d t (leb-true d 502 e) (leb→le _ _ (and_l reach (miss && dark) x)) (ltb→lt _ _ (and_l miss dark y)) (leb→le _ _ (and_r miss dark y))
    go false e x =
        let reach = logarithm_test low (scene t) (threshold_signal d) in
        let miss = logarithm_test high (scene (t - 1)) (threshold_signal d) in
        let bright = ltb (2 ^ 40) (12 * (t - 1)) in
        let y = and_r reach (miss && bright) x in
        curve_passed d t (leb-false d 502 e) (logarithm_test_lem low (scene t) (threshold_signal d) (and_l reach (miss && bright) x))
        (logarithm_test_lem high (scene (t - 1)) (threshold_signal d) (and_l miss bright y)) (ltb→lt _ _ (and_r miss bright y))

pub steps_pass : T (every step_test 65 step_table)
unfolding sum_num sum_den inner_num inner_den above_c below_c slope step_table
steps_pass = tt
