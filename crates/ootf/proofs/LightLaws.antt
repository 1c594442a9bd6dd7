-- Laws of `display_light`: it is the light that the rule asks for, the only one, at most 1,811 cd/m2; what it reaches and misses, black, and its growth.
use mathlib.Core.Path.{◌≡◌, refl, ap}
use mathlib.Core.Logic.{◌⊎◌, inl, inr}
use mathlib.Core.Bool.{true}
use Prim.Native.Nat.{ℕ, zero, suc, ◌*◌, ◌^◌, ◌≤◌, ◌<◌, zero-le}
use native.Mathlib.Nat.{le_trans, le_of_eq, le_antisymm, lt_of_not-le, not-le_of_lt, mul-zero, mul-le-mul, mul-le-mul_left, mul-le-mul_right, pow-le-pow_left}
use native.Mathlib.Decide.{dec_le}
use native.Mathlib.Omega.{arith}
use lib.Dec.{lit<}
use borrow.Author.Tests.{leb-true, le-leb}
use Rattle.laws.specs.Largest.{Falling}
use Rattle.laws.proofs.LargestLaws.{Found, found, passes_le, at_most_falls}
use Rattle.quantity.specs.Units.{units, thousand, ten_thousand}
use Rattle.quantity.specs.Component.{pixel, weighted}
use Rattle.inverse_oetf.proofs.SceneLaws.{last_light}
use Rattle.ootf.specs.Light.{light_side, scene_side, IsDisplayLight, at_least, display_light, scene_read}

-- both sides grow: that of the light with it, that of the scene with luminance and component
light_side_grows : (c d : ℕ) → c ≤ d → light_side c ≤ light_side d
light_side_grows c d h = mul-le-mul_right (2 ^ 240) (mul-le-mul_right 10000 (pow-le-pow_left h 5))

scene_side_grows : (Y S Y' S' : ℕ) → Y ≤ Y' → S ≤ S' → scene_side Y S ≤ scene_side Y' S'
scene_side_grows Y S Y' S' hy hs = mul-le-mul (mul-le-mul_left (thousand ^ 5) hy) (pow-le-pow_left hs 5)

-- so a light that is missed leaves all above it
pub at_least_falls : (Y S : ℕ) → Falling (at_least Y S)
unfolding at_least
at_least_falls Y S = at_most_falls light_side (scene_side Y S) light_side_grows

light_found : (Y S : ℕ) → Found (at_least Y S) 0 ten_thousand (display_light Y S)
unfolding display_light
light_found Y S = found (at_least Y S) 0 ten_thousand

-- ---- what is reached and what is missed
pub light_reached : (Y S : ℕ) → light_side (display_light Y S) ≤ scene_side Y S
unfolding at_least
light_reached Y S = go (light_found Y S).passes
  where
    go : (display_light Y S ≡ 0) ⊎ (at_least Y S (display_light Y S) ≡ true) → light_side (display_light Y S) ≤ scene_side Y S
    go (inl e) = le_trans (le_of_eq (ap light_side e)) zero-le
    go (inr t) = leb-true _ _ t

pub reached_le : (Y S c : ℕ) → c ≤ ten_thousand → light_side c ≤ scene_side Y S → c ≤ display_light Y S
unfolding display_light at_least
reached_le Y S c h k = passes_le (at_least Y S) 0 ten_thousand c (le_trans h (omega arith)) (le-leb _ _ k)

pub missed_above : (Y S c : ℕ) → scene_side Y S < light_side c → display_light Y S < c
missed_above Y S c h =
    lt_of_not-le (λ l. not-le_of_lt h (le_trans (light_side_grows c (display_light Y S) l) (light_reached Y S)))

-- ---- a scene light as read is at most that of code 1,019, and luminance at most white's
pub read_le : (s : ℕ) → scene_read s ≤ 1803467062476
read_le s = omega (arith, last_light)

pub luminance_le : (r g b : ℕ) → r ≤ 1803467062476 → g ≤ 1803467062476 → b ≤ 1803467062476 → weighted (pixel r g b) ≤ 10000 * 1803467062476
luminance_le r g b hr hg hb = omega arith

-- ---- the rule: no light above 1,811 cd/m2 is reached, so the search leaves out none
reached_small : (Y S c : ℕ) → Y ≤ 10000 * 1803467062476 → S ≤ 1803467062476 → light_side c ≤ scene_side Y S → c ≤ 1811 * units
reached_small Y S c hy hs h = go (dec_le c (1811 * units))
  where
    past : scene_side (10000 * 1803467062476) 1803467062476 < light_side (suc (1811 * units))
    past = unfold thousand units in lit< tt

    go : Dec (c ≤ 1811 * units) → c ≤ 1811 * units
    go (yes p) = p
    go (no p) =
        absurd (not-le_of_lt past (le_trans (light_side_grows (suc (1811 * units)) c (lt_of_not-le p))
        (le_trans h (scene_side_grows Y S (10000 * 1803467062476) 1803467062476 hy hs))))

within : (c : ℕ) → c ≤ 1811 * units → c ≤ ten_thousand
unfolding ten_thousand
within c h = omega arith

pub light_at_most : (Y S : ℕ) → Y ≤ 10000 * 1803467062476 → S ≤ 1803467062476 → display_light Y S ≤ 1811 * units
light_at_most Y S hy hs = reached_small Y S (display_light Y S) hy hs (light_reached Y S)

pub light_is : (Y S : ℕ) → Y ≤ 10000 * 1803467062476 → S ≤ 1803467062476 → IsDisplayLight Y S (display_light Y S)
light_is Y S hy hs =
    record {
      reached = light_reached Y S;
      largest = λ u h. reached_le Y S u (within u (reached_small Y S u hy hs h)) h;
    }

pub rule_unique : {Y S c d : ℕ} → IsDisplayLight Y S c → IsDisplayLight Y S d → c ≡ d
rule_unique {c = c} {d = d} h k = le_antisymm (k.largest c h.reached) (h.largest d k.reached)

-- ---- order: a brighter component, or the same in a brighter pixel, has no less light
pub light_of_brighter : (Y S Y' S' : ℕ) → Y ≤ Y' → S ≤ S' → display_light Y S ≤ display_light Y' S'
light_of_brighter Y S Y' S' hy hs =
    reached_le Y' S' (display_light Y S) (le_trans (light_found Y S).to (omega arith)) (le_trans (light_reached Y S) (scene_side_grows Y S Y' S' hy hs))

pub light_grows : (Y S S' : ℕ) → S ≤ S' → display_light Y S ≤ display_light Y S'
light_grows Y S S' h = light_of_brighter Y S Y S' (omega arith) h

-- a component without light has none on the display, whatever the others have
pub no_light_lem : (Y : ℕ) → display_light Y 0 ≡ 0
no_light_lem Y = go (display_light Y 0) (light_reached Y 0)
  where
    dark : scene_side Y 0 ≡ 0
    dark = mul-zero (thousand ^ 5 * Y)

    go : (c : ℕ) → light_side c ≤ scene_side Y 0 → c ≡ 0
    go zero h = refl
    go (suc c) h = absurd (not-le_of_lt (lit< tt) (le_trans (light_side_grows 1 (suc c) (omega arith)) (le_trans h (le_of_eq dark))))
