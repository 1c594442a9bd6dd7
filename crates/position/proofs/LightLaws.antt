-- Lights of positions: over any table of entries that grow, then of the light table itself.
use mathlib.Core.Path.{◌≡◌, sym, ap, ◌∙◌}
use mathlib.Core.List.{List}
use Prim.Native.Nat.{ℕ, ◌+◌, ◌-◌, ◌*◌, ◌/◌, ◌%◌, ◌≤◌, ◌<◌}
use native.Mathlib.Nat.{le_trans, mul-le-mul_left, zero-lt-suc, mul-add-div}
use native.Mathlib.Decide.{dec_le}
use native.Mathlib.Omega.{arith}
use Rattle.quantity.specs.Units.{ten_thousand, last_position}
use Rattle.pq.specs.LightTable.{light_table, light_entry}
use Rattle.pq.specs.Pq.{entry_in}
use Rattle.pq.proofs.EntryLaws.{entries_grow, entry_first, entry_last, entry_past}
use Rattle.position.specs.Position.{light_at_in, light_at}

-- the light at q from the entries of its cell, p and the next
abbrev pub light_in : ℕ → ℕ → ℕ → ℕ
light_in p next q = p + (next - p) * (q % 256) / 256

-- a part f of 256 of a height d: no more than d, and by whole cells of 256 and the rest
pub part_le : (d f : ℕ) → f < 256 → d * f / 256 ≤ d
part_le d f h = omega (arith, mul-le-mul_left {m = f} {n = 256} d (omega arith))

pub part_grows : (d f g : ℕ) → f ≤ g → d * f / 256 ≤ d * g / 256
part_grows d f g h = omega (arith, mul-le-mul_left d h)

pub part_split : (d f : ℕ) → d / 256 * f + d % 256 * f / 256 ≡ d * f / 256
part_split d f =
    let e : 256 * (d / 256 * f) + d % 256 * f ≡ d * f = omega (arith, ap (λ t. t * f) (whole d)) in
    sym (mul-add-div (zero-lt-suc 255) (d / 256 * f) (d % 256 * f)) ∙ ap (λ t. t / 256) e
  where
    whole : (d : ℕ) → 256 * (d / 256) + d % 256 ≡ d
    whole d = omega arith

module _ (P : ℕ → ℕ) where
  pub entry_in_lem : (k : ℕ) → light_at_in P (256 * k) ≡ P k
  entry_in_lem k =
      let e : 256 * k / 256 ≡ k = omega arith in
      let f : 256 * k % 256 ≡ 0 = omega arith in
      rw (e, f) (omega arith)

  -- the light at q from the entries around it
  pub sloped : (q low high part : ℕ) → low ≡ P (q / 256) → high ≡ P (q / 256 + 1) → part ≡ (high - low) * (q % 256) / 256 → low + part ≡ light_at_in P q
  sloped q low high part e f g = cc

  from_cell : (q : ℕ) → P (q / 256) ≤ light_at_in P q
  from_cell q = omega arith

  same_cell : (p q : ℕ) → q / 256 ≡ p / 256 → p % 256 ≤ q % 256 → light_at_in P p ≤ light_at_in P q
  same_cell p q e h = rw e (omega (arith, part_grows (P (p / 256 + 1) - P (p / 256)) (p % 256) (q % 256) h))

  module _ (grows : (i j : ℕ) → i ≤ j → P i ≤ P j) where
    to_cell : (q : ℕ) → light_at_in P q ≤ P (q / 256 + 1)
    to_cell q = omega (arith, part_le (P (q / 256 + 1) - P (q / 256)) (q % 256) (omega arith), grows (q / 256) (q / 256 + 1) (omega arith))

    pub grows_in : (p q : ℕ) → p ≤ q → light_at_in P p ≤ light_at_in P q
    grows_in p q h = go (dec_le (p / 256 + 1) (q / 256))
      where
        go : Dec (p / 256 + 1 ≤ q / 256) → light_at_in P p ≤ light_at_in P q
        go (yes k) = le_trans (to_cell p) (le_trans (grows (p / 256 + 1) (q / 256) k) (from_cell q))
        go (no k) = same_cell p q (omega arith) (omega arith)

-- more position, no less light
pub light_grows : (p q : ℕ) → p ≤ q → light_at p ≤ light_at q
unfolding light_at
light_grows = grows_in light_entry entries_grow

pub light_at_entry : (k : ℕ) → light_at (256 * k) ≡ light_entry k
unfolding light_at
light_at_entry = entry_in_lem light_entry

pub first_light_lem : light_at 0 ≡ 0
first_light_lem = light_at_entry 0 ∙ entry_first

-- from the last position on, the light is the last entry's, 10,000 cd/m2
pub past_range : (q : ℕ) → last_position ≤ q → light_at q ≡ light_entry 3504
unfolding light_at last_position
past_range q h =
    let e : light_entry (q / 256) ≡ light_entry 3504 = entry_past (q / 256) ∙ ap light_entry (omega arith) in
    let f : light_entry (q / 256 + 1) ≡ light_entry 3504 = entry_past (q / 256 + 1) ∙ ap light_entry (omega arith) in
    rw (e, f) (let d : light_entry 3504 - light_entry 3504 ≡ 0 = omega arith in rw d (omega arith))

pub last_light : light_at last_position ≡ ten_thousand
last_light = past_range last_position (omega arith) ∙ entry_last

pub light_at_most : (q : ℕ) → light_at q ≤ ten_thousand
light_at_most q = go (dec_le q last_position)
  where
    go : Dec (q ≤ last_position) → light_at q ≤ ten_thousand
    go (yes h) = omega (arith, light_grows q last_position h, last_light)
    go (no h) = omega (arith, past_range q (omega arith), entry_last)

-- what is read off a table that is the light table
pub lent_light : (t : List ℕ) (q : ℕ) → t ≡ light_table → light_at_in (entry_in t) q ≡ light_at q
unfolding light_at light_entry
lent_light t q e = ap (λ (s : List ℕ). light_at_in (entry_in s) q) e
