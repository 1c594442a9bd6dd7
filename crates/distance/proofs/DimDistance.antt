-- A dim pixel of enclosed lights, which no curve bends: its codes are 64 and 65, where a ratio alone is enough. Lights in units.
use mathlib.Core.Path.{◌≡◌, ap}
use mathlib.Core.Logic.{◌⊎◌, inl, inr}
use Prim.Native.Nat.{ℕ, ◌+◌, ◌-◌, ◌*◌, ◌^◌, ◌≤◌, ◌<◌}
use native.Mathlib.Nat.{le_refl, le_trans, mul-le-mul_left, mul-le-mul_right}
use native.Mathlib.Decide.{dec_le}
use native.Mathlib.Omega.{arith}
use lib.Dec.{lit<, lit≤}
use Rattle.laws.specs.Side.{Side, low, high}
use Rattle.quantity.specs.Component.{Component, red, green, blue, Pixel, weighted}
use Rattle.hlg_steps.specs.StepTable.{step_table, step}
use Rattle.hlg.specs.Code.{hlg_code}
use Rattle.hlg.proofs.CancelledLaws.{C, K, code_is}
use Rattle.position.specs.Position.{light_at}
use Rattle.pixel.proofs.PixelLaws.{Mapped}
use Rattle.full_range.proofs.FoundNumbers.{units_below, units_above}
use Rattle.full_range.proofs.FullRangeTests.{less, more, beside}
use Rattle.exact.specs.ExactValue.{Given, BentLight}
use Rattle.distance.specs.Demand.{AtMost, Enclosed}
use Rattle.distance.proofs.FoundNumbers.{slope_above, first_light, dim_light, dim_ratio}
use Rattle.distance.proofs.StepTests.{slope_above_lem}
use Rattle.distance.proofs.StepLaws.{Room}
use Rattle.distance.proofs.NearLaws.{Near, unmapped, part_le, luminance_ge}
use Rattle.distance.proofs.CodeDistance.{code_below, one_and_a_half}
use Rattle.distance.proofs.PixelDistance.{at_code}
use Rattle.distance.proofs.LightLaws.{entries}
use Rattle.distance.proofs.BentLightLaws.{in_parts}
use Rattle.distance.proofs.FullRangeNear.{numerators, denominators}
use Rattle.distance.proofs.FullRangeBent.{Beside, results}

-- ---- the steps: so little light of blue alone does not reach the code 66, and the ratio fits between the first three
past_dim : C * dim_light ^ 5 < step 66 ^ 6 * K * 593
unfolding C K step step_table
past_dim = lit< tt

first_fits : dim_ratio * dim_ratio ^ 6 * (step 65 + 0) ^ 6 ≤ 1 * 1 ^ 6 * (step 66 - 1) ^ 6
unfolding step step_table
first_fits = lit≤ tt

second_fits : dim_ratio * dim_ratio ^ 6 * (step 66 + 0) ^ 6 ≤ 1 * 1 ^ 6 * (step 67 - 1) ^ 6
unfolding step step_table
second_fits = lit≤ tt

fits : (d : ℕ) → 64 ≤ d → d < 66 → dim_ratio * dim_ratio ^ 6 * (step (d + 1) + 0) ^ 6 ≤ 1 * 1 ^ 6 * (step (d + 2) - 1) ^ 6
fits d from to = go (dec_le d 64)
  where
    go : Dec (d ≤ 64) → dim_ratio * dim_ratio ^ 6 * (step (d + 1) + 0) ^ 6 ≤ 1 * 1 ^ 6 * (step (d + 2) - 1) ^ 6
    go (yes h) = let e : d ≡ 64 = omega arith in rw e first_fits
    go (no h) = let e : d ≡ 65 = omega arith in rw e second_fits

-- a ratio alone takes no room
no_room : Room 0 0 0 0 (593 * first_light) 0 0
no_room =
    record {
      v = slope_above;
      v' = slope_above;
      some = lit≤ tt;
      slope_high = enough;
      slope_low = enough;
      high = λ c h. (omega arith, same_high (step c) _);
      low = λ c h. (omega arith, same_low (step c) _);
    }
  where
    same_high : (t f : ℕ) → (t + 0) ^ 6 * f ≤ (t + 0) ^ 6 * (f - 0)
    same_high t f = let e : f - 0 ≡ f = omega arith in rw e (le_refl _)

    same_low : (t f : ℕ) → (t - 0) ^ 6 * (f + 0) ≤ (t - 0) ^ 6 * f
    same_low t f = let e : f + 0 ≡ f = omega arith in rw e (le_refl _)

    enough : C ≤ slope_above ^ 6 * K * (593 * first_light)
    enough = le_trans slope_above_lem (mul-le-mul_left (slope_above ^ 6 * K) (lit≤ tt))

-- ---- what encloses a light u beside the brightest, M: k and l are these less what lies below them
high_core : (k u : ℕ) → first_light ≤ u → u ≤ k + units_below → (u + units_above) * (k + (units_below + units_above)) ≤ dim_ratio * (k * u)
high_core k u h g = omega (arith, mul-le-mul_left k h)

low_core : (k l : ℕ) → first_light ≤ l + units_below → l ≤ k → (l + units_below) * (k + (units_below + units_above)) ≤ dim_ratio * (l * k)
low_core k l h g = omega (arith, mul-le-mul_right k h)

module _ (M u : ℕ) (top : M ≤ dim_light) (under : u ≤ M) (lit : (u ≡ 0) ⊎ (first_light ≤ u)) where
  ratio_high : more u * (entries.parts * more M) ≤ dim_ratio * (entries.parts * less M * u)
  ratio_high = go lit
    where
      go : (u ≡ 0) ⊎ (first_light ≤ u) → more u * (entries.parts * more M) ≤ dim_ratio * (entries.parts * less M * u)
      go (inl e) = let z : more u ≡ 0 = omega arith in rw z (omega arith)
      go (inr h) =
          let k = M - units_below in
          let a : more u ≡ u + units_above = omega arith in
          let b : more M ≡ k + (units_below + units_above) = omega arith in
          let c : less M ≡ k = omega arith in
          rw (a, b, c) (omega (arith, high_core k u h (omega arith)))

  ratio_low : u * (entries.parts * more M) ≤ dim_ratio * (less u * (entries.parts * less M))
  ratio_low = go lit
    where
      go : (u ≡ 0) ⊎ (first_light ≤ u) → u * (entries.parts * more M) ≤ dim_ratio * (less u * (entries.parts * less M))
      go (inl e) = rw e (omega arith)
      go (inr h) =
          let k = M - units_below in
          let l = u - units_below in
          let a : less u ≡ l = omega arith in
          let b : more M ≡ k + (units_below + units_above) = omega arith in
          let c : less M ≡ k = omega arith in
          let e : u ≡ l + units_below = omega arith in
          rw (a, b, c) (omega (arith, low_core k l (omega arith) (omega arith), ap (λ t. t * (k + (units_below + units_above))) e))

module _ {G : Given} {x r : Pixel} {m : ℕ} (I : Beside G x m) (M : Mapped (light_at m) (light_at m) x r) (dim : light_at m ≤ dim_light)
    (lights : (i : Component) → (x i ≡ 0) ⊎ (first_light ≤ x i)) where
  abbrev b : Side → ℕ
  b s = entries.parts * beside s (light_at m)

  pos : 0 < light_at m
  pos = omega (arith, I.some)

  same : (i : Component) → r i ≡ x i
  same i = unmapped (x i) (light_at m) (r i) pos (M.floors i)

  result_high : (i : Component) → numerators x b high i ≤ dim_ratio * (denominators (light_at m) high * r i)
  result_high i = rw (same i) (ratio_high (light_at m) (x i) dim (M.inside i) (lights i))

  result_low : (i : Component) → r i * denominators (light_at m) low ≤ dim_ratio * numerators x b low i
  result_low i = rw (same i) (ratio_low (light_at m) (x i) dim (M.inside i) (lights i))

  near : (i : Component) → Near 0 0 0 0 1 dim_ratio (numerators x b) (denominators (light_at m)) r i
  near i =
      record {
        result_high = omega (arith, result_high i);
        luminance_low = let e : weighted r - 0 ≡ weighted r = omega arith in rw e (omega (arith, result_low red, result_low green, result_low blue));
        result_low = let e : r i - 0 ≡ r i = omega arith in rw e (omega (arith, result_low i));
        luminance_high = omega (arith, result_high red, result_high green, result_high blue);
        part = part_le r i;
      }

  pub dim_within : (peak : ℕ) → ((s : Side) → BentLight G s peak (in_parts (b s))) → (i : Component)
      → Enclosed G peak i (AtMost 3 2 (hlg_code (weighted r) (r i)))
  dim_within peak bent i =
      let d = hlg_code (weighted r) (r i) in
      let c = code_is (weighted r) (r i) in
      let top : d < 66 = code_below {a = dim_light} 66 (lit≤ tt) (part_le r i) (omega (arith, same i, M.inside i, dim)) past_dim c in
      let enough : 593 * first_light ≤ weighted r = omega (arith, luminance_ge pos M, I.some) in
      at_code (results I peak b bent) no_room (near i) enough (lit< tt) (lit< tt) (omega arith)
      (one_and_a_half 1 dim_ratio 0 0 d c.low (omega arith) (fits d c.low top) (λ h. absurd (omega arith)))
