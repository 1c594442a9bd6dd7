-- The spline is a whole part; the curve of positions it makes stays under t and under m, grows with m by no more than m does, and has the
-- inequalities of `Place`.
use mathlib.Core.Path.{◌≡◌, sym, ap, subst, ◌∙◌}
use mathlib.Core.Bool.{cond}
use Prim.Native.Nat.{ℕ, min, ◌+◌, ◌-◌, ◌*◌, ◌^◌, ◌≤◌, ◌<◌}
use native.Mathlib.Nat.{lt_of_not-le, mul-pos, mul-le-mul, mul-le-mul_left, le_of_mul-le-mul_left, lt_of_mul-lt-mul_left, pow-le-pow_left}
use native.Mathlib.Decide.{dec_le}
use native.Mathlib.Omega.{arith}
use lib.Dec.{ltb}
use borrow.Author.Tests.{lt-ltb, le-ltb}
use Rattle.laws.proofs.PowerLaws.{powers}
use Rattle.position.specs.Position.{light_at_in}
use Rattle.eetf.specs.Curve.{spline, knee_curve}
use Rattle.eetf.proofs.CubicLaws.{Place, place_above, place_below, half_way, below_diagonal, slope}
use Rattle.eetf.proofs.FloorLaws.{FloorOfDifference, floor_quotient, floor_falls}

-- ---- the spline from the knee up
cubic_le : (a b t : ℕ) → 2 * a ≤ 3 * b → b ≤ 2 * t → 4 * a ^ 3 ≤ 27 * b ^ 2 * t
cubic_le a b t h k = simp powers (omega (arith, mul-le-mul h (mul-le-mul h h), mul-le-mul_left (b * b) k))

square_pos : (b : ℕ) → 0 < b → 0 < 27 * b ^ 2
square_pos b h = simp powers (omega (arith, mul-pos h h))

abbrev pub SplineFloor : ℕ → ℕ → ℕ → ℕ → Type 0
SplineFloor t w m s = FloorOfDifference t (4 * (w - m) ^ 3) (27 * (w - t) ^ 2) s

pub spline_floor : (t w m : ℕ) → t < w → w ≤ 3 * t → 3 * t ≤ 2 * m + w → SplineFloor t w m (spline t w m)
unfolding spline
spline_floor t w m p h k =
    floor_quotient t (4 * (w - m) ^ 3) (27 * (w - t) ^ 2)
    (square_pos (w - t) (omega arith)) (cubic_le (w - m) (w - t) t (omega arith) (omega arith))

pub spline_le : (t w m : ℕ) → t < w → w ≤ 3 * t → 3 * t ≤ 2 * m + w → spline t w m ≤ t
spline_le t w m p h k =
    le_of_mul-le-mul_left {k = 27 * (w - t) ^ 2} (omega (arith, (spline_floor t w m p h k).low)) (square_pos (w - t) (omega arith))

pub spline_grows : (t w m n : ℕ) → t < w → w ≤ 3 * t → 3 * t ≤ 2 * m + w → m ≤ n → spline t w m ≤ spline t w n
spline_grows t w m n p h k l =
    floor_falls t (4 * (w - m) ^ 3) (4 * (w - n) ^ 3) (27 * (w - t) ^ 2) (spline t w m) (spline t w n)
    (mul-le-mul_left 4 (pow-le-pow_left {n = w - n} {m = w - m} (omega arith) 3))
    (spline_floor t w m p h k) (spline_floor t w n p h (omega arith))

-- the same over a = w − m, b = w − t and q = t − s, as products
record Ceiling (a b q : ℕ) : Type 0 where
  low : 4 * (a * a * a) ≤ 27 * (b * b * q)
  high : 27 * (b * b * q) < 4 * (a * a * a) + 27 * (b * b)

as_products : (t a b q s : ℕ) → s + q ≡ t → FloorOfDifference t (4 * a ^ 3) (27 * b ^ 2) s → Ceiling a b q
as_products t a b q s e f =
    record {
      low = omega (arith, simp powers at f.low, ap (λ u. b * b * u) e);
      high = omega (arith, simp powers at f.high, ap (λ u. b * b * u) e);
    }

-- ---- the curve of positions: the position at which the light M2 stands
unfoldable pub curve : ℕ → ℕ → ℕ → ℕ
curve t w m = cond (ltb (2 * min m w + w) (3 * t)) (min m w) (spline t w (min m w))

pub curve_below : (t w m : ℕ) → 2 * min m w + w < 3 * t → curve t w m ≡ min m w
unfolding curve
curve_below t w m h = rw (lt-ltb (2 * min m w + w) (3 * t) h)

pub curve_above : (t w m : ℕ) → 3 * t ≤ 2 * min m w + w → curve t w m ≡ spline t w (min m w)
unfolding curve
curve_above t w m h = rw (le-ltb (2 * min m w + w) (3 * t) h)

pub knee_curve_below : (P : ℕ → ℕ) (t w M1 m : ℕ) → 2 * min m w + w < 3 * t → knee_curve P t w M1 m ≡ M1
unfolding knee_curve
knee_curve_below P t w M1 m h = rw (lt-ltb (2 * min m w + w) (3 * t) h)

pub knee_curve_above : (P : ℕ → ℕ) (t w M1 m : ℕ) → 3 * t ≤ 2 * min m w + w → knee_curve P t w M1 m ≡ light_at_in P (spline t w (min m w))
unfolding knee_curve
knee_curve_above P t w M1 m h = rw (le-ltb (2 * min m w + w) (3 * t) h)

-- which branch a position takes, with what the branch gives
data Branch (t w m : ℕ) : Type 0 where
  stays : 2 * min m w + w < 3 * t → curve t w m ≡ min m w → Branch t w m
  bends : 3 * t ≤ 2 * min m w + w → SplineFloor t w (min m w) (curve t w m) → Branch t w m

-- the peak's position w lies above t and not above 3t
module _ (t w : ℕ) (above : t < w) (near : w ≤ 3 * t) where
  branch : (m : ℕ) → Branch t w m
  branch m = go (dec_le (3 * t) (2 * min m w + w))
    where
      go : Dec (3 * t ≤ 2 * min m w + w) → Branch t w m
      go (yes h) = bends h (subst (SplineFloor t w (min m w)) (sym (curve_above t w m h)) (spline_floor t w (min m w) above near h))
      go (no h) = stays (lt_of_not-le h) (curve_below t w m (lt_of_not-le h))

  pub curve_le_top : (m : ℕ) → curve t w m ≤ t
  curve_le_top m = go (branch m)
    where
      go : Branch t w m → curve t w m ≤ t
      go (stays h e) = omega arith
      go (bends h f) = le_of_mul-le-mul_left {k = 27 * (w - t) ^ 2} (omega (arith, f.low)) (square_pos (w - t) (omega arith))

  bent_by : (m a b q : ℕ) → min m w + a ≡ w → t + b ≡ w → curve t w m + q ≡ t → SplineFloor t w (min m w) (curve t w m) → Ceiling a b q
  bent_by m a b q ea eb eq f =
      let da : w - min m w ≡ a = omega arith in
      let db : w - t ≡ b = omega arith in
      as_products t a b q (curve t w m) eq (rw (da, db) at f)

  -- from four half positions below the knee upwards
  pub curve_place : (m a b q : ℕ) → min m w + a ≡ w → t + b ≡ w → curve t w m + q ≡ t → 4 ≤ b → 3 * t < 2 * min m w + w + 5 → Place a b q
  curve_place m a b q ea eb eq l h = go (branch m)
    where
      go : Branch t w m → Place a b q
      go (stays k e) = place_below a b q l (omega arith) (omega arith) (omega arith)
      go (bends k f) = let v = bent_by m a b q ea eb eq f in place_above a b q (omega arith) (omega arith) v.low v.high

  -- the numbers of the bent branch
  bent : (m : ℕ) → SplineFloor t w (min m w) (curve t w m) → Ceiling (w - min m w) (w - t) (t - curve t w m)
  bent m f = let top = curve_le_top m in bent_by m (w - min m w) (w - t) (t - curve t w m) (omega arith) (omega arith) (omega arith) f

  pub curve_le_self : (m : ℕ) → curve t w m ≤ min m w
  curve_le_self m = go (branch m)
    where
      go : Branch t w m → curve t w m ≤ min m w
      go (stays k e) = omega arith
      go (bends k f) =
          let top = curve_le_top m in
          omega (arith, below_diagonal (w - min m w) (w - t) (t - curve t w m) (omega arith) (bent m f).low)

  -- above the knee the curve stays above the knee, to half a position
  pub curve_from_knee : (m : ℕ) → 3 * t ≤ 2 * min m w + w → 3 * t ≤ 2 * curve t w m + w + 1
  curve_from_knee m h = go (branch m)
    where
      go : Branch t w m → 3 * t ≤ 2 * curve t w m + w + 1
      go (stays k e) = omega arith
      go (bends k f) =
          let top = curve_le_top m in
          omega (arith, half_way (w - min m w) (w - t) (t - curve t w m) (omega arith) (bent m f).high)

  -- and from four half positions below it upwards, to two positions
  pub curve_near_knee : (m : ℕ) → 4 + t ≤ w → 3 * t < 2 * min m w + w + 5 → 3 * t ≤ 2 * curve t w m + w + 4
  curve_near_knee m l h =
      let top = curve_le_top m in
      let p = curve_place m (w - min m w) (w - t) (t - curve t w m) (omega arith) (omega arith) (omega arith) (omega arith) h in
      omega (arith, p.shallow)

  pub curve_grows : (m n : ℕ) → m ≤ n → curve t w m ≤ curve t w n
  curve_grows m n h = go (branch m) (branch n)
    where
      go : Branch t w m → Branch t w n → curve t w m ≤ curve t w n
      go (stays k e) (stays l d) = omega arith
      go (stays k e) (bends l g) = omega (arith, curve_from_knee n l)
      go (bends k f) (stays l d) = omega arith
      go (bends k f) (bends l g) =
          omega (arith, curve_above t w m k, curve_above t w n l, spline_grows t w (min m w) (min n w) above near k (omega arith))

  -- by no more than m does
  pub curve_slope : (m d : ℕ) → curve t w (m + d) ≤ curve t w m + d
  curve_slope m d = go (branch m) (branch (m + d))
    where
      step : min (m + d) w - min m w ≤ d
      step = omega arith

      under : (s r c : ℕ) → r ≤ t → t - s ≤ t - r + c → c ≤ d → r ≤ s + d
      under s r c h less g = omega arith

      go : Branch t w m → Branch t w (m + d) → curve t w (m + d) ≤ curve t w m + d
      go (stays k e) y = omega (arith, curve_le_self (m + d))
      go (bends k f) (stays l e) = absurd (omega arith)
      go (bends k f) (bends l g) =
          let a = w - min (m + d) w in
          let c = min (m + d) w - min m w in
          let whole : w - min m w ≡ a + c = omega arith in
          let q = t - curve t w m in
          let knee : 2 * (w - min m w) ≤ 3 * (w - t) = omega arith in
          let high = subst (λ u. 27 * ((w - t) * (w - t) * q) < 4 * (u * u * u) + 27 * ((w - t) * (w - t))) whole (bent m f).high in
          let less = slope a (w - t) c (t - curve t w (m + d)) q (subst (λ u. 2 * u ≤ 3 * (w - t)) whole knee) (bent (m + d) g).low high in
          under (curve t w m) (curve t w (m + d)) c (curve_le_top (m + d)) less step

  -- a position below the knee is not clipped
  pub curve_stays : (m : ℕ) → 2 * min m w + w < 3 * t → curve t w m ≡ m
  curve_stays m h = curve_below t w m h ∙ omega arith

  -- past the peak the curve stays at its end
  pub curve_end : (m : ℕ) → w ≤ m → curve t w m ≡ t
  curve_end m h = go (branch m)
    where
      go : Branch t w m → curve t w m ≡ t
      go (stays k e) = absurd (omega arith)
      go (bends k f) =
          let top = curve_le_top m in
          let v = bent_by m 0 (w - t) (t - curve t w m) (omega arith) (omega arith) (omega arith) f in
          let none : t - curve t w m < 1 = lt_of_mul-lt-mul_left (27 * ((w - t) * (w - t))) {m = t - curve t w m} {n = 1} (omega (arith, v.high)) in
          omega arith

  -- M2 is the light at the curve's position where M1 is the light at m
  pub knee_curve_light : (P : ℕ → ℕ) (m : ℕ) → knee_curve P t w (light_at_in P m) m ≡ light_at_in P (curve t w m)
  knee_curve_light P m = go (dec_le (3 * t) (2 * min m w + w))
    where
      go : Dec (3 * t ≤ 2 * min m w + w) → knee_curve P t w (light_at_in P m) m ≡ light_at_in P (curve t w m)
      go (yes h) = knee_curve_above P t w (light_at_in P m) m h ∙ ap (light_at_in P) (sym (curve_above t w m h))
      go (no h) =
          knee_curve_below P t w (light_at_in P m) m (lt_of_not-le h) ∙ ap (light_at_in P) (sym (curve_stays m (lt_of_not-le h)))
