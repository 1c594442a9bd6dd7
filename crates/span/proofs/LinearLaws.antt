-- Laws for rows of floats: a light's position by its cell, the curve at a light that has no code, and what floats are mapped to.
use Rattle.std.proofs.Common.{◌≡◌, ℕ, suc, pred, ◌+◌, ◌-◌, ◌*◌, ◌/◌, ◌<◌, ◌≤◌, min, Bool, true, false, ◌⊎◌, inl, inr, List, sym, ◌∙◌, subst, ap₂}
use Rattle.std.proofs.Common.{lt_of_not-le, not-le_of_lt, le_trans, add-one, arith, nat_le}
use native.Mathlib.Decide.{dec_le}
use borrow.Author.Tests.{leb-true, leb-false}
use Rattle.laws.specs.Largest.{largest}
use Rattle.laws.proofs.LargestLaws.{found}
use Rattle.quantity.specs.Units.{units, thousand, ten_thousand, last_position}
use Rattle.pq.specs.Pq.{entry_in}
use Rattle.pq.specs.LightTable.{light_table, light_entry}
use Rattle.pq.proofs.EntryLaws.{entry_first, entry_last}
use Rattle.position.specs.Position.{position_of}
use Rattle.position.proofs.LightLaws.{light_grows}
use Rattle.position.proofs.PositionLaws.{in_cell_lem, position_is}
use Rattle.eetf.specs.Curve.{peak_position_read, knee_curve, bent_light}
use Rattle.eetf.proofs.SplineLaws.{knee_curve_below}
use Rattle.eetf.proofs.CurveLaws.{bent_by_curve, on_light_table}
use Rattle.span.specs.Linear.{InCell, knee_light}

module _ (k l low next : ℕ) (cell : InCell k l) (e_low : low ≡ light_entry k) (e_next : next ≡ light_entry (k + 1)) where
  pub position_in_cell : 256 * k + (256 * (l - low + 1) - 1) / (next - low) ≡ position_of l
  position_in_cell =
      let e_suc : light_entry (k + 1) ≡ light_entry (suc k) = rw add-one in
      let from = cell.from in
      let to : l < light_entry (suc k) = omega (arith, cell.to) in
      let over : 256 * (l - low + 1) - 1 ≡ pred ((suc l - light_entry k) * 256) = omega arith in
      let rise : next - low ≡ light_entry (suc k) - light_entry k = omega arith in
      sym (in_cell_lem k l cell.index from to ∙ omega (arith, ap₂ (λ (n d : ℕ). n / d) over rise))

-- the last entry that is at most a light begins its cell
pub searched_cell : (l k : ℕ) → l < ten_thousand → k ≡ largest (λ j. nat_le (light_entry j) l) 0 3503 → InCell k l
searched_cell l k h e =
    let test : ℕ → Bool = λ j. nat_le (light_entry j) l in
    let f = found test 0 3503 in
    let index : largest test 0 3503 < 3504 = omega (arith, f.to) in
    let from : light_entry (largest test 0 3503) ≤ l = begin f.passes in
    subst (λ (j : ℕ). InCell j l) (sym e) (record { index = index; from = from; to = end (largest test 0 3503) index f.last (dec_le _ _) })
  where
    begin : {d : ℕ} → (d ≡ 0) ⊎ (nat_le (light_entry d) l ≡ true) → light_entry d ≤ l
    begin (inl z) = rw z (omega (arith, entry_first))
    begin (inr t) = leb-true _ _ t

    end : (d : ℕ) → d < 3504 → ((j : ℕ) → d < j → j ≤ 3503 → nat_le (light_entry j) l ≡ false) → Dec (d ≤ 3502) → l < light_entry (d + 1)
    end d index last (yes p) = leb-false _ _ (last (d + 1) (omega arith) (omega arith))
    end d index last (no p) = let edge : d + 1 ≡ 3504 = omega arith in rw edge (omega (arith, entry_last))

-- ---- the curve under a peak above 1,000 cd/m2, at a light and its position
module _ (L l : ℕ) (h : 1000 < L) where
  abbrev t : ℕ
  t = position_of thousand

  abbrev w : ℕ
  w = position_of (L * units)

  abbrev m : ℕ
  m = position_of l

  -- below the light at the knee nothing is bent
  pub below_knee_light : l < knee_light w → bent_light L l m ≡ l
  unfolding knee_light
  below_knee_light k =
      let q = (3 * t + 1 - w) / 2 in
      let before : m < q = lt_of_not-le (λ r. not-le_of_lt k (le_trans (light_grows q m r) (position_is l).reached)) in
      bent_by_curve L l m h ∙ knee_curve_below light_entry t w l m (omega arith)

  -- on the light table, which reads neither light nor position past its end
  pub curved_light : (table : List ℕ) (p q : ℕ) {r : ℕ} → table ≡ light_table → p ≡ w → l ≤ ten_thousand → q ≡ m
      → r ≡ knee_curve (entry_in table) t (peak_position_read p) (min l ten_thousand) (min q last_position) → r ≡ bent_light L l m
  curved_light table p q el ep top eq e =
      e
      ∙ on_light_table table L p (min l ten_thousand) (min q last_position) h el ep
      ∙ ap₂ (bent_light L) (omega arith) (omega (arith, (position_is l).range))
