-- M2 branch by branch: under a peak up to 1,000 cd/m2, below the knee and from it, at the positions that the light table gives.
use mathlib.Core.Path.{◌≡◌, sym, ap, subst, ◌∙◌}
use mathlib.Core.List.{List}
use Prim.Native.Nat.{ℕ, min, ◌+◌, ◌*◌, ◌≤◌, ◌<◌}
use native.Mathlib.Nat.{le_trans, lt_of_not-le}
use native.Mathlib.Decide.{dec_le}
use native.Mathlib.Omega.{arith}
use borrow.Author.Tests.{le-leb, lt-leb}
use Rattle.quantity.specs.Units.{units, thousand, last_position}
use Rattle.pq.specs.LightTable.{light_table, light_entry}
use Rattle.pq.specs.Pq.{entry_in}
use Rattle.position.specs.Position.{light_at_in, light_at, position_of}
use Rattle.position.proofs.LightLaws.{light_grows}
use Rattle.position.proofs.PositionLaws.{position_is}
use Rattle.position.proofs.PeakLaws.{thousand_position, peak_past, peak_apart}
use Rattle.eetf.specs.Curve.{peak_position_read, spline, knee_curve, bent_light_in, bent_light}
use Rattle.eetf.proofs.SplineLaws.{curve, curve_le_top, curve_le_self, curve_grows, knee_curve_below, knee_curve_above, knee_curve_light}

-- ---- the peak
module _ (P : ℕ → ℕ) (L w M1 m : ℕ) where
  pub unbent_in : L ≤ 1000 → bent_light_in P L w M1 m ≡ min M1 thousand
  unbent_in h = rw (le-leb L 1000 h)

  pub bent_in : 1000 < L → bent_light_in P L w M1 m ≡ knee_curve P (position_of thousand) w M1 m
  bent_in h = rw (lt-leb L 1000 h)

pub unbent : (L M1 m : ℕ) → L ≤ 1000 → bent_light L M1 m ≡ min M1 thousand
unfolding bent_light
unbent L M1 m h = unbent_in light_entry L (position_of (L * units)) M1 m h

pub bent_by_curve : (L M1 m : ℕ) → 1000 < L → bent_light L M1 m ≡ knee_curve light_entry (position_of thousand) (position_of (L * units)) M1 m
unfolding bent_light
bent_by_curve L M1 m h = bent_in light_entry L (position_of (L * units)) M1 m h

-- the position of a peak above 1,000 cd/m2 is read as it is
pub peak_position_read_lem : (L : ℕ) → 1000 < L → peak_position_read (position_of (L * units)) ≡ position_of (L * units)
unfolding last_position
peak_position_read_lem L h = omega (arith, peak_past L h, (position_is (L * units)).range)

-- ---- the knee, whose test is on positions as they are read
pub below_knee : (P : ℕ → ℕ) (w M1 m end at : ℕ) → end ≡ peak_position_read w → at ≡ min m end → 2 * at + end < 3 * 674406 →
    knee_curve P (position_of thousand) (peak_position_read w) M1 m ≡ M1
below_knee P w M1 m end at e a h =
    knee_curve_below P (position_of thousand) (peak_position_read w) M1 m (omega (arith, thousand_position))

pub from_knee : (P : ℕ → ℕ) (w M1 m end at s : ℕ) → end ≡ peak_position_read w → at ≡ min m end → 3 * 674406 ≤ 2 * at + end → s ≡ spline 674406 end at →
    knee_curve P (position_of thousand) (peak_position_read w) M1 m ≡ light_at_in P s
from_knee P w M1 m end at s e a h f =
    let t = thousand_position in
    let g = knee_curve_above P (position_of thousand) (peak_position_read w) M1 m (omega (arith, thousand_position)) in
    cc

-- ---- on a table that is the light table, at the position of a peak above 1,000 cd/m2
pub on_light_table : (l : List ℕ) (L w M1 m : ℕ) → 1000 < L → l ≡ light_table → w ≡ position_of (L * units) →
    knee_curve (entry_in l) (position_of thousand) (peak_position_read w) M1 m ≡ bent_light L M1 m
unfolding light_entry
on_light_table l L w M1 m h e f =
    ap (λ x. knee_curve (entry_in x) (position_of thousand) (peak_position_read w) M1 m) e
    ∙ ap (λ x. knee_curve light_entry (position_of thousand) x M1 m) (ap (λ x. peak_position_read x) f ∙ peak_position_read_lem L h)
    ∙ sym (bent_by_curve L M1 m h)

-- and under any peak
pub bent_on_light_table : (l : List ℕ) (L w M1 m : ℕ) → l ≡ light_table → w ≡ position_of (L * units) →
    bent_light_in (entry_in l) L (peak_position_read w) M1 m ≡ bent_light L M1 m
bent_on_light_table l L w M1 m e f = go (dec_le L 1000)
  where
    go : Dec (L ≤ 1000) → bent_light_in (entry_in l) L (peak_position_read w) M1 m ≡ bent_light L M1 m
    go (yes h) = unbent_in (entry_in l) L (peak_position_read w) M1 m h ∙ sym (unbent L M1 m h)
    go (no h) = bent_in (entry_in l) L (peak_position_read w) M1 m (lt_of_not-le h) ∙ on_light_table l L w M1 m (lt_of_not-le h) e f

-- ---- where M1 is the light at m: under a peak above 1,000 cd/m2 M2 is the light at the curve's position
abbrev pub bent_position : ℕ → ℕ → ℕ
bent_position L m = curve (position_of thousand) (position_of (L * units)) m

module _ (L : ℕ) (h : 1000 < L) where
  pub peak_above : position_of thousand < position_of (L * units)
  peak_above = omega (arith, peak_apart L h)

  pub peak_near : position_of (L * units) ≤ 3 * position_of thousand
  unfolding last_position
  peak_near = omega (arith, thousand_position, (position_is (L * units)).range)

  pub bent_at_lem : (m : ℕ) → bent_light L (light_at m) m ≡ light_at (bent_position L m)
  unfolding light_at
  bent_at_lem m =
      bent_by_curve L (light_at_in light_entry m) m h
      ∙ knee_curve_light (position_of thousand) (position_of (L * units)) peak_above peak_near light_entry m

-- it exceeds neither 1,000 cd/m2 nor M1, and grows with m
bent_cases : (F : ℕ → Type 0) (L m : ℕ) → F (min (light_at m) thousand) → ((h : 1000 < L) → F (light_at (bent_position L m))) → F (bent_light L (light_at m) m)
bent_cases F L m f g = go (dec_le L 1000)
  where
    go : Dec (L ≤ 1000) → F (bent_light L (light_at m) m)
    go (yes h) = subst F (sym (unbent L (light_at m) m h)) f
    go (no h) = subst F (sym (bent_at_lem L (lt_of_not-le h) m)) (g (lt_of_not-le h))

pub bent_le_thousand : (L m : ℕ) → bent_light L (light_at m) m ≤ thousand
bent_le_thousand L m =
    bent_cases (λ x. x ≤ thousand) L m (omega arith)
    (λ h. le_trans (light_grows (bent_position L m) (position_of thousand)
    (curve_le_top (position_of thousand) (position_of (L * units)) (peak_above L h) (peak_near L h) m))
    (position_is thousand).reached)

pub bent_le_self : (L m : ℕ) → bent_light L (light_at m) m ≤ light_at m
bent_le_self L m =
    bent_cases (λ x. x ≤ light_at m) L m (omega arith)
    (λ h. light_grows (bent_position L m) m (omega (arith, curve_le_self (position_of thousand) (position_of (L * units)) (peak_above L h) (peak_near L h) m)))

pub bent_grows : (L m n : ℕ) → m ≤ n → bent_light L (light_at m) m ≤ bent_light L (light_at n) n
bent_grows L m n k = go (dec_le L 1000)
  where
    go : Dec (L ≤ 1000) → bent_light L (light_at m) m ≤ bent_light L (light_at n) n
    go (yes h) = omega (arith, unbent L (light_at m) m h, unbent L (light_at n) n h, light_grows m n k)
    go (no r) =
        let h = lt_of_not-le r in
        let c = curve_grows (position_of thousand) (position_of (L * units)) (peak_above L h) (peak_near L h) m n k in
        omega (arith, bent_at_lem L h m, bent_at_lem L h n, light_grows (bent_position L m) (bent_position L n) c)
