-- The first full-range codes above black: their positions and lights. Ten bits begin where twelve bits have their fourth. Lights in units.
use mathlib.Core.Path.{◌≡◌, refl}
use mathlib.Core.Logic.{◌⊎◌, inl, inr}
use Prim.Native.Nat.{ℕ, ◌*◌, ◌/◌, ◌≤◌, ◌<◌}
use native.Mathlib.Decide.{dec_le}
use native.Mathlib.Omega.{arith}
use Rattle.quantity.specs.declared.sample_format.Depth.{Depth}
use Rattle.quantity.specs.declared.sample_format.Depth.TheVariants.{Ten, Twelve}
use Rattle.quantity.specs.declared.sample_format.Range.TheVariants.{Full}
use Rattle.quantity.specs.SampleFormat.{coded}
use Rattle.pq.specs.LightTable.{light_table, light_entry}
use Rattle.position.specs.Position.{light_at}
use Rattle.position.specs.Code.{above_black, code_position}
use Rattle.position.proofs.LightLaws.{light_grows}
use Rattle.distance.proofs.FoundNumbers.{first_light, dim_light, lit_light}

-- the position of a code of twelve bits
abbrev pub twelve : ℕ → ℕ
twelve n = 897024 * n / 4095

first_is : light_at (twelve 1) ≡ first_light
unfolding light_at light_entry light_table
first_is = refl

third_is : light_at (twelve 3) ≡ dim_light
unfolding light_at light_entry light_table
third_is = refl

fourth_is : light_at (twelve 4) ≡ lit_light
unfolding light_at light_entry light_table
fourth_is = refl

pub lit_ge : (q : ℕ) → twelve 4 ≤ q → lit_light ≤ light_at q
lit_ge q h = omega (arith, fourth_is, light_grows (twelve 4) q h)

pub dim_le : (q : ℕ) → q ≤ twelve 3 → light_at q ≤ dim_light
dim_le q h = omega (arith, third_is, light_grows q (twelve 3) h)

module _ (d : Depth) (D : ℕ) where
  abbrev n : ℕ
  n = above_black (coded d Full) D

  abbrev q : ℕ
  q = code_position (coded d Full) D

  pub first_from : 0 < n → twelve 1 ≤ q
  first_from h = go d h
    where
      go : (d : Depth) → 0 < above_black (coded d Full) D → twelve 1 ≤ code_position (coded d Full) D
      go Ten h = omega arith
      go Twelve h = omega arith

  pub first_ge : 0 < n → first_light ≤ light_at q
  first_ge h = omega (arith, first_is, light_grows (twelve 1) q (first_from h))

  -- no code has a position between the third and the fourth
  pub dim_or_lit : (q ≤ twelve 3) ⊎ (twelve 4 ≤ q)
  dim_or_lit = go d
    where
      ten : (n : ℕ) → Dec (1 ≤ n) → (897024 * n / 1023 ≤ twelve 3) ⊎ (twelve 4 ≤ 897024 * n / 1023)
      ten n (yes h) = inr (omega arith)
      ten n (no h) = inl (omega arith)

      more : (n : ℕ) → Dec (4 ≤ n) → (twelve n ≤ twelve 3) ⊎ (twelve 4 ≤ twelve n)
      more n (yes h) = inr (omega arith)
      more n (no h) = inl (omega arith)

      go : (d : Depth) → (code_position (coded d Full) D ≤ twelve 3) ⊎ (twelve 4 ≤ code_position (coded d Full) D)
      go Ten = ten (above_black (coded Ten Full) D) (dec_le 1 (above_black (coded Ten Full) D))
      go Twelve = more (above_black (coded Twelve Full) D) (dec_le 4 (above_black (coded Twelve Full) D))
