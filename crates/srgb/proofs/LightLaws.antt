-- The linear lights of sRGB: each is the one light that the rule asks for, in one pass of its test over the table, and they rise, from 0 to 2^40.
use mathlib.Core.Path.{◌≡◌, refl, ◌∙◌, subst, ap}
use mathlib.Core.Logic.{◌⊎◌, inl, inr}
use mathlib.Core.Bool.{Bool, ◌&&◌}
use mathlib.Core.List.{List}
use Prim.Native.Nat.{ℕ, min, ◌+◌, ◌*◌, ◌^◌, ◌≤◌, ◌<◌}
use native.Mathlib.Nat.{le_trans, le_of_eq, le_of_lt, le_antisymm, eq-or-lt_of_le, lt_of_lt_of_le, lt_irrefl, mul-le-mul_right, pow-le-pow_left}
use native.Mathlib.Decide.{dec_le}
use native.Mathlib.Omega.{arith}
use lib.Dec.{T, leb, ltb, leb→le, ltb→lt}
use lib.Ieee.Fits.{and_l, and_r}
use lib.ListN.{length, get_or}
use Rattle.laws.proofs.ComputedTests.{every, at_place, rises}
use Rattle.srgb.specs.Light.{light_side, value_side, IsLinearLight}
use Rattle.srgb.specs.LightTable.{linear_table, linear_light}

-- ---- the test: the power of s is at most the value's, and that of s + 1 is above it
abbrev light_test : ℕ → ℕ → Bool
light_test v s = leb (light_side s) (value_side v) && ltb (value_side v) (light_side (s + 1))

-- a number whose fifth power, times k, is at most m is at most s, where that of s + 1 is above m
root_le : (k m s t : ℕ) → m < (s + 1) ^ 5 * k → t ^ 5 * k ≤ m → t ≤ s
root_le k m s t above h = go (dec_le t s)
  where
    go : Dec (t ≤ s) → t ≤ s
    go (yes p) = p
    go (no p) = absurd (lt_irrefl m (lt_of_lt_of_le above (le_trans (mul-le-mul_right k (pow-le-pow_left (omega arith) 5)) h)))

light_test_lem : (v s : ℕ) → T (light_test v s) → IsLinearLight v s
light_test_lem v s t =
    let below = leb (light_side s) (value_side v) in
    let above = ltb (value_side v) (light_side (s + 1)) in
    record {
      within = leb→le (light_side s) (value_side v) (and_l below above t);
      largest = λ u. root_le (255 ^ 11) (value_side v) s u (ltb→lt (value_side v) (light_side (s + 1)) (and_r below above t));
    }

lights_pass : T (every light_test 0 linear_table)
unfolding linear_table
lights_pass = tt

pub table_length : length linear_table ≡ 256
unfolding linear_table
table_length = refl

-- what is read of the table, or of an array that holds it, at a value's place
pub light_read : (t : List ℕ) (v : ℕ) → t ≡ linear_table → v ≤ 255 → get_or t v 0 ≡ linear_light v
unfolding linear_light
light_read t v e h =
    let place : v ≡ min v 255 = omega arith in
    ap (λ (l : List ℕ). get_or l v 0) e ∙ ap (λ (k : ℕ). get_or linear_table k 0) place

-- ---- the rule
pub light_rule : (v : ℕ) → v ≤ 255 → IsLinearLight v (linear_light v)
light_rule v h =
    subst (IsLinearLight v) (light_read linear_table v refl h)
    (light_test_lem v (get_or linear_table v 0) (at_place light_test linear_table lights_pass v (omega (arith, table_length))))

-- one light at most
pub rule_unique : (v s t : ℕ) → IsLinearLight v s → IsLinearLight v t → s ≡ t
rule_unique v s t a b = le_antisymm (b.largest s a.within) (a.largest t b.within)

-- ---- order, over all values, also past the range
entries_rise : (i j : ℕ) → i < j → j < 256 → get_or linear_table i 0 < get_or linear_table j 0
entries_rise i j h l = rising i j h (rw table_length l)
  where
    rising : (i j : ℕ) → i < j → j < length linear_table → get_or linear_table i 0 < get_or linear_table j 0
    rising = unfold linear_table in rises linear_table tt

pub lights_rise : (v w : ℕ) → v < w → w ≤ 255 → linear_light v < linear_light w
unfolding linear_light
lights_rise v w h k = entries_rise (min v 255) (min w 255) (omega arith) (omega arith)

pub lights_grow : (v w : ℕ) → v ≤ w → linear_light v ≤ linear_light w
unfolding linear_light
lights_grow v w h = go (eq-or-lt_of_le places)
  where
    places : min v 255 ≤ min w 255
    places = omega arith

    go : (min v 255 ≡ min w 255) ⊎ (min v 255 < min w 255) → get_or linear_table (min v 255) 0 ≤ get_or linear_table (min w 255) 0
    go (inl e) = le_of_eq (ap (λ (i : ℕ). get_or linear_table i 0) e)
    go (inr l) = le_of_lt (entries_rise (min v 255) (min w 255) l (omega arith))

-- ---- ends
pub no_light_lem : linear_light 0 ≡ 0
unfolding linear_light linear_table
no_light_lem = refl

pub white_light : linear_light 255 ≡ 2 ^ 40
unfolding linear_light linear_table
white_light = refl

-- a value above 255 reads as 255
nearer : (v : ℕ) → linear_light v ≡ linear_light (min v 255)
unfolding linear_light
nearer v = ap (λ (i : ℕ). get_or linear_table i 0) (omega arith)

pub light_le : (v : ℕ) → linear_light v ≤ 2 ^ 40
light_le v = omega (arith, nearer v, white_light, lights_grow (min v 255) 255 (omega arith))
