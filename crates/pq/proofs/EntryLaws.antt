-- The entries of the light table: each obeys the rule, the rule leaves no choice, the entries grow, and the two ends.
use mathlib.Core.Path.{◌≡◌, refl, sym, ap, subst, ◌∙◌}
use mathlib.Core.List.{List}
use Prim.Native.Nat.{ℕ, zero, suc, min, ◌+◌, ◌-◌, ◌≤◌, ◌<◌, zero-le}
use native.Mathlib.Nat.{le_refl, le_trans, le_of_eq, le_antisymm, not-suc-le-zero, zero-lt-suc}
use native.Mathlib.Numerals.{one-add}
use native.Mathlib.Omega.{arith}
use lib.ListN.{length, get_or, take, drop, length-take, length-drop}
use lib.Seq.{get_or-take, get_or-drop}
use Rattle.laws.proofs.ComputedTests.{at_hinted, rises}
use Rattle.quantity.specs.Units.{units, ten_thousand}
use Rattle.pq.specs.Pq.{ValueAtMost, ValueAbove, index_signal, entry_in, lower_end, upper_end, IsEntry}
use Rattle.pq.specs.LightTable.{light_table, light_entry}
use Rattle.pq.proofs.PqTests.{entry_test, entry_test→}
use Rattle.pq.proofs.TableHints.{hints}
use Rattle.pq.proofs.TableTest.{entries_pass, entries_rise}
use Rattle.pq.proofs.PqLaws.{above_zero, lights_apart}

pub table_length : length light_table ≡ 3505
unfolding light_table
table_length = refl

first_entry : get_or light_table 0 0 ≡ 0
unfolding light_table
first_entry = refl

-- the table from its second entry on
later : (k : ℕ) → get_or (drop 1 light_table) k 0 ≡ get_or light_table (suc k) 0
unfolding light_table
later k = refl

later_length : suc (length (drop 1 light_table)) ≡ length light_table
unfolding light_table
later_length = refl

rule : (k : ℕ) → k < length light_table → IsEntry k (get_or light_table k 0)
unfolding IsEntry
rule zero l = first_entry
rule (suc k) l =
    let r = at_hinted entry_test (drop 1 light_table) hints 1 entries_pass k (omega (arith, later_length)) in
    let p = get_or (drop 1 light_table) k 0 in
    subst (λ (n : ℕ). ValueAtMost (lower_end n) (index_signal (suc k)) × ValueAbove (upper_end n) (index_signal (suc k))) (later k)
    (subst (λ (n : ℕ). ValueAtMost (lower_end p) (index_signal n) × ValueAbove (upper_end p) (index_signal n)) (one-add k)
    (entry_test→ (1 + k) p r.0 r.1))

pub entry_rule : (k : ℕ) → IsEntry (min k 3504) (light_entry k)
unfolding light_entry
entry_rule k = rule (min k 3504) (rw table_length (omega arith))

-- what is read of the table, or of an array that holds it, at the nearest index
pub entry_read : (t : List ℕ) (k : ℕ) → t ≡ light_table → entry_in t k ≡ light_entry k
unfolding light_entry
entry_read t k h = ap (λ u. entry_in u k) h

-- and of c of its entries from k on
pub part_at : (k c i : ℕ) → i < length (take c (drop k light_table)) → get_or (take c (drop k light_table)) i 0 ≡ light_entry (k + i)
unfolding light_entry
part_at k c i h =
    let n : length (take c (drop k light_table)) ≡ min c (length light_table - k) = simp (length-take, length-drop) in
    let e : min (k + i) 3504 ≡ k + i = omega (arith, table_length) in
    get_or-take c (drop k light_table) i 0 (omega arith) ∙ get_or-drop k light_table i 0 ∙ ap (λ (x : ℕ). get_or light_table x 0) (sym e)

-- ---- what the rule alone gives
pub rule_grows : (i j p q : ℕ) → i ≤ j → IsEntry i p → IsEntry j q → p ≤ q
unfolding IsEntry
rule_grows zero j p q h x y = le_trans (le_of_eq x) zero-le
rule_grows (suc i) zero p q h x y = absurd (not-suc-le-zero h)
rule_grows (suc i) (suc j) p q h x y = let l = (lights_apart (record { cross = omega arith }) x.0 y.1).cross in omega (arith, l)

pub rule_unique : (k p q : ℕ) → IsEntry k p → IsEntry k q → p ≡ q
rule_unique k p q x y = le_antisymm (rule_grows k k p q (le_refl k) x y) (rule_grows k k q p (le_refl k) y x)

-- at index 0 only the second half of the rule can be had: V (0) is above 0
pub rule_at_most : (k p : ℕ) → 0 < k → IsEntry k p → ValueAtMost (lower_end p) (index_signal k)
unfolding IsEntry
rule_at_most zero p h x = absurd (not-suc-le-zero h)
rule_at_most (suc k) p h x = x.0

pub rule_above : (k p : ℕ) → IsEntry k p → ValueAbove (upper_end p) (index_signal k)
unfolding IsEntry
rule_above zero p x = above_zero (upper_end p) 3504 (zero-lt-suc 3503)
rule_above (suc k) p x = x.1

-- ---- the entries
pub entries_grow : (i j : ℕ) → i ≤ j → light_entry i ≤ light_entry j
entries_grow i j h = rule_grows (min i 3504) (min j 3504) (light_entry i) (light_entry j) (omega arith) (entry_rule i) (entry_rule j)

pub entries_grow_strictly : (i j : ℕ) → i < j → j ≤ 3504 → light_entry i < light_entry j
unfolding light_entry
entries_grow_strictly i j h l = rises light_table entries_rise (min i 3504) (min j 3504) (omega arith) (rw table_length (omega arith))

pub entry_first : light_entry 0 ≡ 0
unfolding light_entry
entry_first = first_entry

pub entry_last : light_entry 3504 ≡ ten_thousand
unfolding light_entry light_table units ten_thousand
entry_last = refl

-- an index past the table has the last entry
pub entry_past : (k : ℕ) → light_entry k ≡ light_entry (min k 3504)
unfolding light_entry
entry_past k = ap (λ n. get_or light_table n 0) (omega arith)

pub entry_le : (k : ℕ) → light_entry k ≤ ten_thousand
entry_le k =
    subst (λ n. light_entry k ≤ n) entry_last
    (subst (λ n. n ≤ light_entry 3504) (sym (entry_past k)) (entries_grow (min k 3504) 3504 (omega arith)))

pub entry_at_most : (k : ℕ) → 0 < k → k ≤ 3504 → ValueAtMost (lower_end (light_entry k)) (index_signal k)
entry_at_most k h l = rule_at_most k (light_entry k) h (subst (λ n. IsEntry n (light_entry k)) (omega arith) (entry_rule k))

pub entry_above : (k : ℕ) → k ≤ 3504 → ValueAbove (upper_end (light_entry k)) (index_signal k)
entry_above k l = rule_above k (light_entry k) (subst (λ n. IsEntry n (light_entry k)) (omega arith) (entry_rule k))
