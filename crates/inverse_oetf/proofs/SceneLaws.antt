-- The scene lights of the HLG codes: each is the one light that the rule asks for, they rise, and they lie from 0 to below 2^41, in 1/2^40.
use mathlib.Core.Path.{◌≡◌, refl, subst, ap}
use mathlib.Core.Logic.{◌⊎◌, inl, inr}
use mathlib.Core.List.{List}
use Prim.Native.Nat.{ℕ, min, max, ◌+◌, ◌-◌, ◌^◌, ◌≤◌, ◌<◌}
use native.Mathlib.Nat.{le_of_eq, le_of_lt, eq-or-lt_of_le, le_antisymm}
use native.Mathlib.Decide.{dec_le}
use native.Mathlib.Omega.{arith}
use lib.ListN.{length, get_or}
use Rattle.laws.proofs.ComputedTests.{at_entry, rises}
use Rattle.hlg_steps.proofs.SignalLaws.{signal_of_less}
use Rattle.inverse_oetf.specs.SceneLight.{scene_light_in, hlg_signal, lower_end, upper_end, IsSceneLight}
use Rattle.inverse_oetf.specs.SceneTable.{scene_table, scene_light}
use Rattle.inverse_oetf.proofs.SceneTests.{scene_test, scene_test_lem, lights_pass}

pub table_length : length scene_table ≡ 956
unfolding scene_table
table_length = refl

-- what is read of the table, or of an array that holds it, at a code's place
pub scene_read_lem : (t : List ℕ) (d : ℕ) → t ≡ scene_table → scene_light_in t d ≡ scene_light d
unfolding scene_light
scene_read_lem t d h = ap (λ (l : List ℕ). scene_light_in l d) h

-- ---- the rule
rule_at : (i : ℕ) → i < 956 → IsSceneLight (64 + i) (get_or scene_table i 0)
rule_at i l = scene_test_lem (64 + i) (get_or scene_table i 0) (at_entry scene_test scene_table 64 lights_pass i (rw table_length l))

-- of every code, the ones past the range read at the nearer end
pub scene_rule_clamped : (d : ℕ) → IsSceneLight (min (max d 64) 1019) (scene_light d)
unfolding scene_light
scene_rule_clamped d =
    subst (λ (c : ℕ). IsSceneLight c (get_or scene_table (min (d - 64) 955) 0)) (omega arith)
    (rule_at (min (d - 64) 955) (omega arith))

pub scene_rule : (d : ℕ) → 64 ≤ d → d ≤ 1019 → IsSceneLight d (scene_light d)
scene_rule d h k = subst (λ (c : ℕ). IsSceneLight c (scene_light d)) (omega arith) (scene_rule_clamped d)

-- one light at most: half a unit above the smaller one is at most half a unit below the larger
pub rule_unique : (d s t : ℕ) → IsSceneLight d s → IsSceneLight d t → s ≡ t
rule_unique d s t a b = le_antisymm (at_most s t a b) (at_most t s b a)
  where
    at_most : (s t : ℕ) → IsSceneLight d s → IsSceneLight d t → s ≤ t
    at_most s t a b = go (dec_le s t)
      where
        go : Dec (s ≤ t) → s ≤ t
        go (yes y) = y
        go (no y) =
            absurd (b.not_at (signal_of_less (upper_end t) (lower_end s) (hlg_signal d) (record { cross = omega arith }) a.from))

-- ---- order
entries_rise : (i j : ℕ) → i < j → j < 956 → get_or scene_table i 0 < get_or scene_table j 0
entries_rise i j h l = rising i j h (rw table_length l)
  where
    rising : (i j : ℕ) → i < j → j < length scene_table → get_or scene_table i 0 < get_or scene_table j 0
    rising = unfold scene_table in rises scene_table tt

pub lights_rise : (c d : ℕ) → 64 ≤ c → c < d → d ≤ 1019 → scene_light c < scene_light d
unfolding scene_light
lights_rise c d h l k = entries_rise (min (c - 64) 955) (min (d - 64) 955) (omega arith) (omega arith)

-- over all codes, also past the range
pub lights_grow : (c d : ℕ) → c ≤ d → scene_light c ≤ scene_light d
unfolding scene_light
lights_grow c d h = go (eq-or-lt_of_le places)
  where
    places : min (c - 64) 955 ≤ min (d - 64) 955
    places = omega arith

    go : (min (c - 64) 955 ≡ min (d - 64) 955) ⊎ (min (c - 64) 955 < min (d - 64) 955)
        → get_or scene_table (min (c - 64) 955) 0 ≤ get_or scene_table (min (d - 64) 955) 0
    go (inl e) = le_of_eq (ap (λ (i : ℕ). get_or scene_table i 0) e)
    go (inr l) = le_of_lt (entries_rise (min (c - 64) 955) (min (d - 64) 955) l (omega arith))

-- ---- ends
pub black_scene : scene_light 64 ≡ 0
unfolding scene_light scene_table
black_scene = refl

pub first_light_lem : scene_light 65 ≡ 477607
unfolding scene_light scene_table
first_light_lem = refl

pub last_light : scene_light 1019 ≡ 1803467062476
unfolding scene_light scene_table
last_light = refl

-- a code above 1,019 reads as 1,019
nearer : (d : ℕ) → scene_light d ≡ scene_light (min d 1019)
unfolding scene_light
nearer d = ap (λ (i : ℕ). get_or scene_table i 0) (omega arith)

pub scene_le : (d : ℕ) → scene_light d ≤ 1803467062476
scene_le d = omega (arith, nearer d, last_light, lights_grow (min d 1019) 1019 (omega arith))

pub scene_fits : (d : ℕ) → scene_light d < 2 ^ 41
scene_fits d = omega (arith, scene_le d)

-- light from code 65 on, none up to 64
pub lit : (d : ℕ) → 64 < d → 0 < scene_light d
lit d h = omega (arith, first_light_lem, lights_grow 65 d h)

pub dark : (d : ℕ) → d ≤ 64 → scene_light d ≡ 0
dark d h = omega (arith, black_scene, lights_grow d 64 h)
