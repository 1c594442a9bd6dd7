-- The table of thresholds holds those of the definition: one pass over its entries.
use mathlib.Core.Path.{◌≡◌, refl, sym, ◌∙◌, ap, subst}
use mathlib.Core.Bool.{Bool}
use mathlib.Core.List.{List}
use Prim.Native.Nat.{ℕ, min, ◌+◌, ◌-◌, ◌≤◌}
use native.Mathlib.Omega.{arith}
use lib.Dec.{T, eqb, eqb→eq}
use lib.ListN.{length, get_or}
use Rattle.laws.proofs.ComputedTests.{every, at_entry}
use Rattle.quantity.specs.Units.{ten_thousand}
use Rattle.pq.specs.LightTable.{light_table, light_entry}
use Rattle.pq.proofs.EntryLaws.{entry_le}
use Rattle.inverse_eotf.specs.Code.{threshold_light, threshold_in}
use Rattle.inverse_eotf.specs.ThresholdTable.{threshold_table}

abbrev threshold_test : ℕ → ℕ → Bool
threshold_test D light = eqb light (threshold_light D)

thresholds_pass : T (every threshold_test 65 threshold_table)
unfolding light_table light_entry threshold_table
thresholds_pass = tt

table_length : length threshold_table ≡ 876
unfolding threshold_table
table_length = refl

-- what is read of the table, or of an array that holds it, at a code's place
pub threshold_read : (t : List ℕ) (D : ℕ) → t ≡ threshold_table → 65 ≤ D → D ≤ 940 → threshold_in t D ≡ threshold_light D
threshold_read t D e from to =
    let i = D - 65 in
    let place : min (D - 65) 875 ≡ i = omega arith in
    let code : 65 + i ≡ D = omega arith in
    let test = at_entry threshold_test threshold_table 65 thresholds_pass i (omega (arith, table_length)) in
    ap (λ (l : List ℕ). threshold_in l D) e
    ∙ ap (λ (k : ℕ). get_or threshold_table k 0) place
    ∙ eqb→eq (get_or threshold_table i 0) (threshold_light (65 + i)) test
    ∙ ap threshold_light code

-- none is above 10,000 cd/m2
pub threshold_le : (t : List ℕ) (D : ℕ) → t ≡ threshold_table → 65 ≤ D → D ≤ 940 → threshold_in t D ≤ ten_thousand
threshold_le t D e from to = subst (λ (n : ℕ). n ≤ ten_thousand) (sym (threshold_read t D e from to)) (entry_le _)
