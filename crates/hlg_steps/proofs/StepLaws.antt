-- The HLG steps: each is the one that the rule asks for and stands on both sides of its signal, and they rise. From one pass of the step's test.
use mathlib.Core.Path.{◌≡◌, refl, subst, ap}
use mathlib.Core.Logic.{◌⊎◌, inl, inr}
use mathlib.Core.List.{List}
use Prim.Native.Nat.{ℕ, min, max, ◌+◌, ◌-◌, ◌^◌, ◌≤◌, ◌<◌}
use native.Mathlib.Nat.{le_of_eq, le_of_lt, eq-or-lt_of_le, lt_of_le_of_lt}
use native.Mathlib.Omega.{arith}
use lib.Dec.{lit<}
use lib.ListN.{length, get_or}
use Rattle.laws.specs.Side.{low, high}
use Rattle.laws.proofs.ComputedTests.{at_entry, rises}
use Rattle.hlg_steps.specs.Signal.{HlgSignal}
use Rattle.hlg_steps.specs.Steps.{step_in, scene, threshold_signal, IsStep}
use Rattle.hlg_steps.specs.StepTable.{step_table, step}
use Rattle.hlg_steps.proofs.StepTests.{Passed, step_test, step_test_lem, steps_pass}

pub table_length : length step_table ≡ 955
unfolding step_table
table_length = refl

-- what is read of the table, or of an array that holds it, at a code's place
pub step_read : (t : List ℕ) (d : ℕ) → t ≡ step_table → step_in t d ≡ step d
unfolding step
step_read t d h = ap (λ (l : List ℕ). step_in l d) h

-- ---- the rule
passed_at : (i : ℕ) → i < 955 → Passed (65 + i) (get_or step_table i 0)
passed_at i l = step_test_lem (65 + i) (get_or step_table i 0) (at_entry step_test step_table 65 steps_pass i (rw table_length l))

-- of every code, the ones past the range read at the nearer end
passed : (d : ℕ) → Passed (min (max d 65) 1019) (step d)
unfolding step
passed d =
    subst (λ (c : ℕ). Passed c (get_or step_table (min (d - 65) 954) 0)) (omega arith)
    (passed_at (min (d - 65) 954) (omega arith))

within : (d : ℕ) → 65 ≤ d → d ≤ 1019 → Passed d (step d)
within d h k = subst (λ (c : ℕ). Passed c (step d)) (omega arith) (passed d)

pub step_rule_clamped : (d : ℕ) → IsStep (min (max d 65) 1019) (step d)
step_rule_clamped d = (passed d).rule

pub step_rule : (d : ℕ) → 65 ≤ d → d ≤ 1019 → IsStep d (step d)
step_rule d h k = (within d h k).rule

-- the threshold is a lower fraction of the signal at the step, and an upper one at the light below it
pub step_signal_low : (d : ℕ) → 65 ≤ d → d ≤ 1019 → HlgSignal low (scene (step d)) (threshold_signal d)
step_signal_low d h k = (within d h k).signal_low

pub step_signal_high : (d : ℕ) → 65 ≤ d → d ≤ 1019 → HlgSignal high (scene (step d - 1)) (threshold_signal d)
step_signal_high d h k = (within d h k).signal_high

-- ---- order
pub entries_rise : (i j : ℕ) → i < j → j < 955 → get_or step_table i 0 < get_or step_table j 0
entries_rise i j h l = rising i j h (rw table_length l)
  where
    rising : (i j : ℕ) → i < j → j < length step_table → get_or step_table i 0 < get_or step_table j 0
    rising = unfold step_table in rises step_table tt

pub steps_rise : (c d : ℕ) → 65 ≤ c → c < d → d ≤ 1019 → step c < step d
unfolding step
steps_rise c d h l k = entries_rise (min (c - 65) 954) (min (d - 65) 954) (omega arith) (omega arith)

-- over all codes, also past the range
pub steps_grow : (c d : ℕ) → c ≤ d → step c ≤ step d
unfolding step
steps_grow c d h = go (eq-or-lt_of_le places)
  where
    places : min (c - 65) 954 ≤ min (d - 65) 954
    places = omega arith

    go : (min (c - 65) 954 ≡ min (d - 65) 954) ⊎ (min (c - 65) 954 < min (d - 65) 954)
        → get_or step_table (min (c - 65) 954) 0 ≤ get_or step_table (min (d - 65) 954) 0
    go (inl e) = le_of_eq (ap (λ (i : ℕ). get_or step_table i 0) e)
    go (inr l) = le_of_lt (entries_rise (min (c - 65) 954) (min (d - 65) 954) l (omega arith))

-- ---- bounds
pub first_step : step 65 ≡ 119402
unfolding step step_table
first_step = refl

last_step : step 1019 < 2 ^ 41
unfolding step step_table
last_step = lit< tt

-- a code is read between 65 and 1,019
nearer : (d : ℕ) → step d ≡ step (min (max d 65) 1019)
unfolding step
nearer d = ap (λ (i : ℕ). get_or step_table i 0) (omega arith)

pub step_pos : (d : ℕ) → 0 < step d
step_pos d = omega (arith, nearer d, first_step, steps_grow 65 (min (max d 65) 1019) (omega arith))

pub step_fits : (d : ℕ) → step d < 2 ^ 41
step_fits d = lt_of_le_of_lt (le_of_eq (nearer d)) (lt_of_le_of_lt (steps_grow (min (max d 65) 1019) 1019 (omega arith)) last_step)
