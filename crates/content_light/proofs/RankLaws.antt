-- Laws of the rank of a position: ranks compare as lights do, since from the third entry of the light table on every position has more light than the
-- one before it, and all lights below that entry are less than any rank from there on.
use mathlib.Core.Path.{◌≡◌, refl, sym, ap, ◌∙◌}
use mathlib.Core.Bool.{Bool}
use Prim.Native.Nat.{ℕ, suc, min, ◌+◌, ◌-◌, ◌*◌, ◌/◌, ◌%◌, ◌≤◌, ◌<◌}
use native.Mathlib.Nat.{mul-le-mul_left}
use native.Mathlib.Decide.{dec_le}
use native.Mathlib.Omega.{arith}
use lib.Dec.{T, leb, leb→le}
use lib.ListN.{get_or, drop, length-drop}
use lib.Seq.{get_or-drop}
use borrow.Author.Tests.{le-leb, lt-leb}
use Rattle.laws.proofs.ComputedTests.{every_pair, at_pair}
use Rattle.quantity.specs.Units.{last_position}
use Rattle.pq.specs.LightTable.{light_table, light_entry}
use Rattle.pq.proofs.EntryLaws.{table_length, entries_grow_strictly}
use Rattle.position.specs.Position.{light_at}
use Rattle.position.proofs.LightLaws.{light_grows}
use Rattle.content_light.specs.Rank.{light_rank}

-- ---- the light rises from position to position
-- from the third entry on the light table rises by a unit or more at every position
abbrev steep : ℕ → ℕ → Bool
steep p q = leb (p + 256) q

all_steep : T (every_pair steep (drop 2 light_table))
unfolding light_table
all_steep = tt

steep_at : (k : ℕ) → 2 ≤ k → k < 3504 → light_entry k + 256 ≤ light_entry (k + 1)
unfolding light_entry
steep_at k h l = leb→le _ _ (rw (here, next) at (at_pair steep (drop 2 light_table) all_steep (k - 2) (simp length-drop (omega (arith, table_length)))))
  where
    here : get_or (drop 2 light_table) (k - 2) 0 ≡ get_or light_table (min k 3504) 0
    here = get_or-drop 2 light_table (k - 2) 0 ∙ ap (λ (i : ℕ). get_or light_table i 0) (omega arith)

    next : get_or (drop 2 light_table) (suc (k - 2)) 0 ≡ get_or light_table (min (k + 1) 3504) 0
    next = get_or-drop 2 light_table (suc (k - 2)) 0 ∙ ap (λ (i : ℕ). get_or light_table i 0) (omega arith)

-- so the next position has more light
part_steep : (d f : ℕ) → 256 ≤ d → d * f / 256 < d * (f + 1) / 256
part_steep d f h = omega arith

rise : (q : ℕ) → 512 ≤ q → q < 897024 → light_at q < light_at (q + 1)
unfolding light_at
rise q h l = go (dec_le 255 (q % 256))
  where
    k : ℕ
    k = q / 256

    d : ℕ
    d = light_entry (k + 1) - light_entry k

    go : Dec (255 ≤ q % 256) → light_at q < light_at (q + 1)
    go (yes e) =
        let cell : (q + 1) / 256 ≡ k + 1 = omega arith in
        let start : (q + 1) % 256 ≡ 0 = omega arith in
        let up = entries_grow_strictly k (k + 1) (omega arith) (omega arith) in
        rw (cell, start) (omega (arith, up, mul-le-mul_left {m = q % 256} {n = 255} d (omega arith)))
    go (no e) =
        let cell : (q + 1) / 256 ≡ k = omega arith in
        let part : (q + 1) % 256 ≡ q % 256 + 1 = omega arith in
        let s = steep_at k (omega arith) (omega arith) in
        rw (cell, part) (omega (arith, part_steep d (q % 256) (omega arith)))

-- ---- the rank, below the third entry and from it on
first_entries : (light_entry 0 ≡ 0) × (light_entry 1 ≡ 81) × (light_entry 2 ≡ 271)
unfolding light_entry light_table
first_entries = (refl, refl, refl)

-- the lights at the last position below the third entry and at that entry
at_third : (light_at 511 ≡ 270) × (light_at 512 ≡ 271)
unfolding light_at light_entry light_table
at_third = (refl, refl)

rank_dark : (q : ℕ) → q < 512 → light_rank q ≡ light_at q
unfolding light_rank
rank_dark q h = simp (lt-leb 512 q h)

pub rank_bright : (q : ℕ) → 512 ≤ q → q ≡ light_rank q
unfolding light_rank
rank_bright q h = sym (simp (le-leb 512 q h))

-- in the first two intervals of the table
pub rank_first : (q : ℕ) → q < 256 → 81 * q / 256 ≡ light_rank q
unfolding light_at
rank_first q h =
    let cell : q / 256 ≡ 0 = omega arith in
    let part : q % 256 ≡ q = omega arith in
    sym (rank_dark q (omega arith) ∙ rw (cell, part, first_entries.0, first_entries.1) (omega arith))

pub rank_second : (q : ℕ) → 256 ≤ q → q < 512 → 81 + 190 * (q - 256) / 256 ≡ light_rank q
unfolding light_at
rank_second q l h =
    let cell : q / 256 ≡ 1 = omega arith in
    let part : q % 256 ≡ q - 256 = omega arith in
    sym (rank_dark q h ∙ rw (cell, part, first_entries.1, first_entries.2))

-- ---- ranks compare as lights do
dark_below : (q : ℕ) → q < 512 → light_at q ≤ 270
dark_below q h = omega (arith, light_grows q 511 (omega arith), at_third.0)

module _ (a b : ℕ) where
  pub rank_le : light_rank a ≤ light_rank b → light_at a ≤ light_at b
  rank_le h = go (dec_le 512 a) (dec_le 512 b)
    where
      go : Dec (512 ≤ a) → Dec (512 ≤ b) → light_at a ≤ light_at b
      go (yes x) (yes y) = light_grows a b (omega (arith, rank_bright a x, rank_bright b y))
      go (yes x) (no y) = absurd (omega (arith, rank_bright a x, rank_dark b (omega arith), dark_below b (omega arith)))
      go (no x) (yes y) = light_grows a b (omega arith)
      go (no x) (no y) = omega (arith, rank_dark a (omega arith), rank_dark b (omega arith))

  pub rank_lt : b ≤ last_position → light_rank a < light_rank b → light_at a < light_at b
  unfolding last_position
  rank_lt last h = go (dec_le 512 a) (dec_le 512 b)
    where
      go : Dec (512 ≤ a) → Dec (512 ≤ b) → light_at a < light_at b
      go (yes x) (yes y) =
          let above : a < b = omega (arith, rank_bright a x, rank_bright b y) in
          omega (arith, rise a x (omega arith), light_grows (a + 1) b (omega arith))
      go (yes x) (no y) = absurd (omega (arith, rank_bright a x, rank_dark b (omega arith), dark_below b (omega arith)))
      go (no x) (yes y) = omega (arith, dark_below a (omega arith), at_third.1, light_grows 512 b y)
      go (no x) (no y) = omega (arith, rank_dark a (omega arith), rank_dark b (omega arith))
