-- Where a few cells of the light table rise little, so many positions take less than a ratio of light. The bent positions are such ones: the way from
-- one to a point around it. One computed test, cell by cell.
use mathlib.Core.Path.{◌≡◌, refl, ap, subst}
use mathlib.Core.Bool.{Bool}
use Prim.Native.Nat.{ℕ, zero, suc, min, max, ◌+◌, ◌-◌, ◌*◌, ◌/◌, ◌%◌, ◌≤◌, ◌<◌}
use native.Mathlib.Nat.{mul-le-mul_left, mul-le-mul_right, le_of_mul-le-mul_left}
use native.Mathlib.Decide.{dec_le}
use native.Mathlib.Omega.{arith}
use lib.Dec.{T, leb, leb→le, lit<, lit≤}
use Rattle.laws.proofs.ComputedTests.{every_in, chunk}
use Rattle.pq.specs.LightTable.{light_table, light_entry}
use Rattle.pq.proofs.EntryLaws.{entries_grow}
use Rattle.position.specs.Position.{light_at}
use Rattle.bent_lights.proofs.FoundNumbers.{points_apart}
use Rattle.distance.proofs.FoundNumbers.{ratio_under, ratio_over, positions_off, first_cell, cells}

-- ---- the light so many positions on
abbrev pub rise : ℕ → ℕ
rise k = light_entry (k + 1) - light_entry k

pub in_cell_lem : (q k f : ℕ) → q ≡ 256 * k + f → f < 256 → light_at q ≡ light_entry k + rise k * f / 256
unfolding light_at
in_cell_lem q k f at h =
    let c : q / 256 ≡ k = omega arith in
    let r : q % 256 ≡ f = omega arith in
    rw (c, r) refl

inside : (p d f e D : ℕ) → d ≤ D → 256 * (p + d * (f + e) / 256) ≤ 256 * (p + d * f / 256) + (e * D + 512)
inside p d f e D h = omega (arith, mul-le-mul_left e h)

across : (p d n f g c e D : ℕ) → d ≤ D → n ≤ D → f + c ≡ 256 → c + g ≡ e → 256 * (p + d + n * g / 256) ≤ 256 * (p + d * f / 256) + (e * D + 512)
across p d n f g c e D h k at to = omega (arith, mul-le-mul_right c h, mul-le-mul_right g k, ap (λ x. d * x) at, ap (λ x. x * D) to)

-- up to a cell's width on it rises as two cells do at most; 512 is what rounding takes
rises_once : (q e D : ℕ) → e ≤ 256 → rise (q / 256) ≤ D → rise (q / 256 + 1) ≤ D → 256 * light_at (q + e) ≤ 256 * light_at q + (e * D + 512)
rises_once q e D h this next = go (dec_le (f + e) 255)
  where
    k : ℕ
    k = q / 256

    f : ℕ
    f = q % 256

    here : light_at q ≡ light_entry k + rise k * f / 256
    here = in_cell_lem q k f (omega arith) (omega arith)

    go : Dec (f + e ≤ 255) → 256 * light_at (q + e) ≤ 256 * light_at q + (e * D + 512)
    go (yes r) = omega (arith, here, in_cell_lem (q + e) k (f + e) (omega arith) (omega arith), inside (light_entry k) (rise k) f e D this)
    go (no r) =
        let there = in_cell_lem (q + e) (k + 1) (f + e - 256) (omega arith) (omega arith) in
        let grows = entries_grow k (k + 1) (omega arith) in
        omega (arith, here, there, grows, across (light_entry k) (rise k) (rise (k + 1)) f (f + e - 256) (256 - f) e D this next (omega arith) (omega arith))

-- and up to c widths on as c + 1 cells do
light_rises : (c q e D : ℕ) → e ≤ 256 * c → ((k : ℕ) → q / 256 ≤ k → k ≤ q / 256 + c → rise k ≤ D)
    → 256 * light_at (q + e) ≤ 256 * light_at q + (e * D + 512 * c)
light_rises zero q e D h most = let n : q + e ≡ q = omega arith in rw n (omega arith)
light_rises (suc c) q e D h most =
    let a = min e 256 in
    let b = e - a in
    let n : q + a + b ≡ q + e = omega arith in
    let first = rises_once q a D (omega arith) (most (q / 256) (omega arith) (omega arith)) (most (q / 256 + 1) (omega arith) (omega arith)) in
    let rest = light_rises c (q + a) b D (omega arith) (λ k from to. most k (omega arith) (omega arith)) in
    let whole : a + b ≡ e = omega arith in
    subst (λ x. 256 * light_at x ≤ 256 * light_at q + (e * D + 512 * suc c)) n (omega (arith, first, rest, ap (λ x. x * D) whole))

-- ---- so e positions on, up to c cells' widths, it takes less than the ratio (p + 1) / p where c + 1 cells rise little enough
abbrev steepest : ℕ → ℕ → ℕ
steepest zero k = rise k
steepest (suc c) k = max (rise k) (steepest c (k + 1))

steepest_is : (c k j : ℕ) → k ≤ j → j ≤ k + c → rise j ≤ steepest c k
steepest_is zero k j from to = let e : j ≡ k = omega arith in rw e (omega arith)
steepest_is (suc c) k j from to = go (dec_le j k) (λ h. steepest_is c (k + 1) j h (omega arith))
  where
    go : Dec (j ≤ k) → (k + 1 ≤ j → rise j ≤ steepest c (k + 1)) → rise j ≤ max (rise k) (steepest c (k + 1))
    go (yes h) later = let e : j ≡ k = omega arith in rw e (omega arith)
    go (no h) later = omega (arith, later (omega arith))

abbrev pub slow : (p e c : ℕ) → ℕ → Bool
slow p e c k = leb (p * (e * steepest c k + 512 * c)) (256 * light_entry k)

pub slow_over : (p e c first count : ℕ) → T (every_in (slow p e c) first count) → e ≤ 256 * c
    → (q : ℕ) → 256 * first ≤ q → q < 256 * (first + count) → p * light_at (q + e) ≤ (p + 1) * light_at q
slow_over p e c first count test h q from to =
    let k = q / 256 in
    let room : p * (e * steepest c k + 512 * c) ≤ 256 * light_entry k = leb→le _ _ (chunk (slow p e c) first count test k (omega arith) (omega arith)) in
    let here : light_entry k ≤ light_at q = omega (arith, in_cell_lem q k (q % 256) (omega arith) (omega arith)) in
    let rises = light_rises c q e (steepest c k) h (λ j f t. steepest_is c k j f t) in
    le_of_mul-le-mul_left {k = 256} (omega (arith, mul-le-mul_left p rises, room, here)) (lit< tt)

-- ---- from a bent position to a point around it: what the bent signal lies off, and the way from one point to the next
abbrev pub reach : ℕ
reach = positions_off + points_apart

all_slow : T (every_in (slow ratio_under reach 1) first_cell cells)
unfolding light_entry light_table
all_slow = tt

pub slow_light : (q : ℕ) → 256 * first_cell ≤ q → q < 256 * (first_cell + cells) → ratio_under * light_at (q + reach) ≤ ratio_over * light_at q
slow_light = slow_over ratio_under reach 1 first_cell cells all_slow (lit≤ tt)
