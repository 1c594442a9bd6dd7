-- Entries of the light table as lower and upper fractions of lights, by the way in which they are rounded, and the light of each code among them.
use mathlib.Core.Path.{◌≡◌, ◌∙◌, ap}
use mathlib.Core.Logic.{inl, inr}
use Prim.Native.Nat.{ℕ, ◌*◌, ◌≤◌, ◌<◌}
use native.Mathlib.Nat.{zero-lt-suc}
use native.Mathlib.Decide.{dec_le}
use native.Mathlib.Omega.{arith}
use lib.Dec.{lit≤}
use Rattle.laws.specs.Fraction.{Fraction, ◌≼◌}
use Rattle.laws.specs.Side.{Side, low, high, other}
use Rattle.laws.proofs.FractionLaws.{≼_trans, ≼-zero}
use Rattle.quantity.specs.declared.sample_format.Depth.{Depth}
use Rattle.quantity.specs.declared.sample_format.Depth.TheVariants.{Ten, Twelve}
use Rattle.quantity.specs.declared.sample_format.Range.TheVariants.{Narrow}
use Rattle.quantity.specs.declared.sample_format.SampleFormat.{SampleFormat}
use Rattle.quantity.specs.SampleFormat.{excursion, coded}
use Rattle.pq.specs.Pq.{index_signal}
use Rattle.pq.specs.LightTable.{light_entry}
use Rattle.pq.proofs.PqLaws.{at_least_of_above, at_most_signal_lem, at_least_signal, at_most_light, at_least_light}
use Rattle.pq.proofs.EntryLaws.{entry_at_most, entry_above}
use Rattle.position.specs.Position.{light_at}
use Rattle.position.specs.Code.{above_black, code_signal, code_light}
use Rattle.position.proofs.LightLaws.{light_at_entry}
use Rattle.position.proofs.CodeLaws.{black_light, indices, narrow_position}
use Rattle.exact.specs.ExactValue.{Value, Light}
use Rattle.exact.proofs.FinerLaws.{same_value}
use Rattle.distance.proofs.NearLaws.{Rounding, around}

-- to the nearest: an entry's light lies from half a unit below it to half a unit above
abbrev pub entries : Rounding
entries = record { parts = 2; pos = zero-lt-suc 1; below = 1; above = 1; upward = lit≤ tt; narrow = lit≤ tt }

-- what is below an entry is a lower fraction of the light of its signal and of any larger one
pub light_low : {x : Fraction} (k : ℕ) (l : Fraction) → 0 < k → k ≤ 3504 → index_signal k ≼ x → l ≼ around entries low (light_entry k) → Light low x l
unfolding Light Value
light_low k l p h g c = inr (at_most_light (at_most_signal_lem (entry_at_most k p h) g) (≼_trans c (record { cross = omega arith })))

-- and what is above it an upper fraction of the light of its signal and of any smaller one
pub light_high : {x : Fraction} (k : ℕ) (l : Fraction) → k ≤ 3504 → x ≼ index_signal k → around entries high (light_entry k) ≼ l → Light high x l
unfolding Light Value
light_high k l h g c = inr (at_least_light (at_least_signal (at_least_of_above (entry_above k h)) g) (≼_trans (record { cross = omega arith }) c))

-- the light of a signal is that of every fraction equal to it
pub same_light : (s : Side) (x y l : Fraction) → x.num * y.den ≡ y.num * x.den → Light s x l → Light s y l
unfolding Light
same_light s x y l e (inl a) = inl (≼-zero {p = y} {q = x} (record { cross = omega arith }) a.0, a.1)
same_light s x y l e (inr a) = inr (same_value (other s) l x y e a)

-- ---- codes of narrow range, whose positions are those of entries
module _ (d : Depth) (D : ℕ) where
  abbrev pub narrow : SampleFormat
  narrow = coded d Narrow

  abbrev pub code_index : ℕ
  code_index = indices d * above_black narrow D

  pub index_range : code_index ≤ 3504
  index_range = go d
    where
      go : (d : Depth) → indices d * above_black (coded d Narrow) D ≤ 3504
      go Ten = omega arith
      go Twelve = omega arith

  -- its signal is that of the code
  pub index_signal_lem : code_index * excursion narrow ≡ above_black narrow D * 3504
  index_signal_lem = go d
    where
      go : (d : Depth) → indices d * above_black (coded d Narrow) D * excursion (coded d Narrow) ≡ above_black (coded d Narrow) D * 3504
      go Ten = omega arith
      go Twelve = omega arith

  pub index_some : 0 < above_black narrow D → 0 < code_index
  index_some h = go d h
    where
      go : (d : Depth) → 0 < above_black (coded d Narrow) D → 0 < indices d * above_black (coded d Narrow) D
      go Ten h = omega arith
      go Twelve h = omega arith

  code_entry : code_light narrow D ≡ light_entry code_index
  unfolding code_light
  code_entry = ap light_at (narrow_position d D) ∙ light_at_entry code_index

  -- the light of a code lies around its entry
  pub code_light_lem : (s : Side) → Light s (code_signal narrow D) (around entries s (code_light narrow D))
  unfolding Light
  code_light_lem high = light_high code_index _ index_range (record { cross = omega (arith, index_signal_lem) }) (record { cross = omega (arith, code_entry) })
  code_light_lem low = go (dec_le 1 (above_black narrow D))
    where
      go : Dec (1 ≤ above_black narrow D) → Light low (code_signal narrow D) (around entries low (code_light narrow D))
      go (yes h) =
          light_low code_index _ (index_some h) index_range (record { cross = omega (arith, index_signal_lem) }) (record { cross = omega (arith, code_entry) })
      go (no h) =
          let e : above_black narrow D ≡ 0 = omega arith in
          inl (e, omega (arith, black_light narrow D e))
