-- The position of a light: the one number with its property, growing with the light, and by a formula inside a cell of the light table.
use mathlib.Core.Path.{◌≡◌, sym, ap}
use mathlib.Core.Logic.{◌⊎◌, inl, inr, ◌↔◌}
use mathlib.Core.Bool.{Bool, true}
use Prim.Native.Nat.{ℕ, suc, pred, ◌+◌, ◌-◌, ◌*◌, ◌/◌, ◌%◌, ◌≤◌, ◌<◌}
use native.Mathlib.Nat.{le_refl, le_trans, le_antisymm, lt_of_not-le, not-le_of_lt, mul_comm, mul-le-mul_right, div-mul-le_self, lt-div-mul-add}
use native.Mathlib.Numerals.{add-one}
use native.Mathlib.Decide.{dec_le}
use native.Mathlib.Omega.{arith}
use lib.Dec.{leb}
use borrow.Author.Tests.{leb-true, le-leb}
use Rattle.laws.specs.Largest.{largest}
use Rattle.laws.proofs.LargestLaws.{Found, found, passes_le}
use Rattle.quantity.specs.Units.{ten_thousand, last_position}
use Rattle.pq.specs.LightTable.{light_entry}
use Rattle.pq.proofs.EntryLaws.{entries_grow}
use Rattle.position.specs.Position.{light_at, position_of, IsPosition}
use Rattle.position.proofs.LightLaws.{first_light_lem, light_grows, light_at_most}

-- the definition has the property, and nothing else has it
pub position_is : (l : ℕ) → IsPosition l (position_of l)
unfolding position_of
position_is l =
    record {
      range = omega (arith, w.to);
      reached = reach w.passes;
      largest = λ p h r. passes_le test 0 last_position p (omega arith) (le-leb (light_at p) l r);
    }
  where
    test : ℕ → Bool
    test q = leb (light_at q) l

    w : Found test 0 last_position (largest test 0 last_position)
    w = found test 0 last_position

    reach : (position_of l ≡ 0) ⊎ (leb (light_at (position_of l)) l ≡ true) → light_at (position_of l) ≤ l
    reach (inl e) = omega (arith, ap light_at e, first_light_lem)
    reach (inr t) = leb-true (light_at (position_of l)) l t

grows_is : {l m p q : ℕ} → l ≤ m → IsPosition l p → IsPosition m q → p ≤ q
grows_is {p = p} h x y = y.largest p x.range (le_trans x.reached h)

pub position_unique : (l q : ℕ) → IsPosition l q → q ≡ position_of l
position_unique l q x = le_antisymm (grows_is (le_refl l) x (position_is l)) (grows_is (le_refl l) (position_is l) x)

pub position_grows : (l m : ℕ) → l ≤ m → position_of l ≤ position_of m
position_grows l m h = grows_is h (position_is l) (position_is m)

-- position and light are adjoint: a position is at most a light's just where its own light is at most that light
pub adjoint : (l q : ℕ) → q ≤ last_position → (q ≤ position_of l) ↔ (light_at q ≤ l)
adjoint l q h = (λ k. le_trans (light_grows q (position_of l) k) (position_is l).reached, λ k. (position_is l).largest q h k)

-- the next position's light is past l
pub next_light : (l : ℕ) → position_of l < last_position → l < light_at (position_of l + 1)
next_light l h = lt_of_not-le (λ k. not-le_of_lt (omega arith) ((position_is l).largest (position_of l + 1) (omega arith) k))

-- from 10,000 cd/m2 on, the last position
pub past_position : (l : ℕ) → ten_thousand ≤ l → position_of l ≡ last_position
past_position l h =
    sym (position_unique l last_position (record { range = le_refl last_position; reached = le_trans (light_at_most last_position) h; largest = λ p r k. r }))

-- the part of 256 to which light l stands in a cell that begins at p and is d high: the largest f with p + floor(d × f / 256) ≤ l
abbrev pub cell_part : ℕ → ℕ → ℕ → ℕ
cell_part p d l = pred ((suc l - p) * 256) / d

part_low : (p d l : ℕ) → p ≤ l → p + d * cell_part p d l / 256 ≤ l
part_low p d l h =
    omega (arith, mul_comm d (cell_part p d l), div-mul-le_self (pred ((suc l - p) * 256)) d, div-mul-le_self (d * cell_part p d l) 256)

part_high : (p d l g : ℕ) → 0 < d → p ≤ l → cell_part p d l < g → l < p + d * g / 256
part_high p d l g z h k =
    let m : pred ((suc l - p) * 256) < cell_part p d l * d + d = lt-div-mul-add {a = pred ((suc l - p) * 256)} {b = d} z in
    let s : suc (cell_part p d l) * d ≤ g * d = mul-le-mul_right d k in
    omega (arith, mul_comm d g)

part_small : (p d l : ℕ) → 0 < d → l < p + d → cell_part p d l < 256
part_small p d l z h =
    let m : cell_part p d l * d ≤ pred ((suc l - p) * 256) = div-mul-le_self (pred ((suc l - p) * 256)) d in
    lt_of_not-le (λ r. not-le_of_lt (omega (arith, mul-le-mul_right d r)) m)

-- the position of light l in the cell k of the table, which begins at p and is d high
abbrev pub in_cell : ℕ → ℕ → ℕ → ℕ → ℕ
in_cell k p d l = k * 256 + cell_part p d l

-- a light in the cell k has its position there
pub in_cell_is : (k l : ℕ) → k < 3504 → light_entry k ≤ l → l < light_entry (suc k)
    → IsPosition l (in_cell k (light_entry k) (light_entry (suc k) - light_entry k) l)
unfolding light_at last_position
in_cell_is k l hk h g =
    record {
      range = omega (arith, small);
      reached = rw (whole, rest, add-one) (part_low p d l h);
      largest = λ r hr hl. go r hl (dec_le r w) (dec_le (suc k) (r / 256));
    }
  where
    p : ℕ
    p = light_entry k

    d : ℕ
    d = light_entry (suc k) - light_entry k

    f : ℕ
    f = cell_part p d l

    w : ℕ
    w = k * 256 + f

    small : f < 256
    small = part_small p d l (omega arith) (omega arith)

    whole : (k * 256 + f) / 256 ≡ k
    whole = omega (arith, small)

    rest : (k * 256 + f) % 256 ≡ f
    rest = omega (arith, small)

    go : (r : ℕ) → light_at r ≤ l → Dec (r ≤ w) → Dec (suc k ≤ r / 256) → r ≤ w
    go r hl (yes x) y = x
    go r hl (no x) (yes y) = absurd (omega (arith, entries_grow (suc k) (r / 256) y))
    go r hl (no x) (no y) =
        let same : r / 256 ≡ k = omega arith in
        let over : f < r % 256 = omega arith in
        absurd (not-le_of_lt (part_high p d l (r % 256) (omega arith) h over) (rw (same, add-one) at hl))

pub in_cell_lem : (k l : ℕ) → k < 3504 → light_entry k ≤ l → l < light_entry (suc k)
    → position_of l ≡ in_cell k (light_entry k) (light_entry (suc k) - light_entry k) l
in_cell_lem k l hk h g = sym (position_unique l (in_cell k (light_entry k) (light_entry (suc k) - light_entry k) l) (in_cell_is k l hk h g))
