-- Laws of the PQ relation: it follows its light and its signal, the index k is the position 256 k, and values, signals and lights are ordered alike.
use mathlib.Core.Logic.{◌≢◌}
use Prim.Native.Nat.{ℕ, suc, ◌*◌, ◌^◌, ◌≤◌, ◌<◌}
use native.Mathlib.Nat.{le_of_lt, lt_of_not-le, not-le_of_lt, mul-le-mul_left, le_of_mul-le-mul_right, one-le-pow, mul-pos, zero-mul}
use native.Mathlib.Decide.{dec_le}
use native.Mathlib.Omega.{arith}
use Rattle.laws.specs.Fraction.{Fraction, over, whole, ◌≼◌, ◌≺◌}
use Rattle.laws.proofs.FractionLaws.{cross_trans, cross_le_lt, cross_lt_le, cross_power, cross_root, cross_root_lt}
use Rattle.quantity.specs.Units.{ten_thousand}
use Rattle.pq.specs.Pq.{ratio_num, ratio_den, ValueAtMost, ValueAtLeast, ValueAbove, index_signal, position_signal}
use Rattle.pq.proofs.PqTests.{ten_thousand_pos, ratio_den_pos}

-- the two sides of the stage from w to V: r ^ 2523 as a fraction
abbrev top : Fraction → ℕ
top w = ratio_num w.num w.den ^ 2523

abbrev bottom : Fraction → ℕ
bottom w = ratio_den w.num w.den ^ 2523

bottom_pos : (w : Fraction) → 0 < bottom w
bottom_pos w = one-le-pow 2523 (ratio_den w.num w.den) (ratio_den_pos w.num w.den w.pos)

ratio_num_pos : 0 < ratio_num 0 1
unfolding ratio_num
ratio_num_pos = omega arith

-- (10,000 N d) ^ 1305, for a light n / d
abbrev range : Fraction → ℕ
range l = (ten_thousand * l.den) ^ 1305

range_pos : (l : Fraction) → 0 < range l
range_pos l = one-le-pow 1305 (ten_thousand * l.den) (mul-pos ten_thousand_pos l.pos)

signal_power : {x y : Fraction} → x ≼ y → x.num ^ 32 * y.den ^ 32 ≤ y.num ^ 32 * x.den ^ 32
signal_power {x} {y} h = cross_power 32 x.num x.den y.num y.den h.cross

light_power : {l k : Fraction} → l ≼ k → l.num ^ 1305 * range k ≤ k.num ^ 1305 * range l
light_power {l} {k} h =
    cross_power 1305 l.num (ten_thousand * l.den) k.num (ten_thousand * k.den) (omega (arith, mul-le-mul_left ten_thousand h.cross))

pub at_least_of_above : {l x : Fraction} → ValueAbove l x → ValueAtLeast l x
at_least_of_above h = record { w = h.w; of_light = h.of_light; of_signal = le_of_lt h.of_signal }

-- every V is above 0, that of no light too
pub above_zero : (l : Fraction) (d : ℕ) (p : 0 < d) → ValueAbove l (over 0 d p)
above_zero l d p =
    record {
      w = whole 0;
      of_light = omega arith;
      of_signal = rw (zero-mul (bottom (whole 0))) (mul-pos (one-le-pow 2523 (ratio_num 0 1) ratio_num_pos) (one-le-pow 32 d p));
    }

-- ---- another signal
module _ {l x y : Fraction} where
  pub at_most_signal_lem : ValueAtMost l x → x ≼ y → ValueAtMost l y
  at_most_signal_lem h g =
      record {
        w = h.w;
        of_light = h.of_light;
        of_signal =
            cross_trans (top h.w) (bottom h.w) (x.num ^ 32) (x.den ^ 32) (y.num ^ 32) (y.den ^ 32)
            (one-le-pow 32 x.den x.pos) h.of_signal (signal_power g);
      }

  pub at_least_signal : ValueAtLeast l x → y ≼ x → ValueAtLeast l y
  at_least_signal h g =
      record {
        w = h.w;
        of_light = h.of_light;
        of_signal =
            cross_trans (y.num ^ 32) (y.den ^ 32) (x.num ^ 32) (x.den ^ 32) (top h.w) (bottom h.w)
            (one-le-pow 32 x.den x.pos) (signal_power g) h.of_signal;
      }

  pub above_signal_lem : ValueAbove l x → y ≼ x → ValueAbove l y
  above_signal_lem h g =
      record {
        w = h.w;
        of_light = h.of_light;
        of_signal =
            cross_le_lt (y.num ^ 32) (y.den ^ 32) (x.num ^ 32) (x.den ^ 32) (top h.w) (bottom h.w)
            (one-le-pow 32 y.den y.pos) (one-le-pow 32 x.den x.pos) (signal_power g) h.of_signal;
      }

-- ---- another light
module _ {l k x : Fraction} where
  pub at_most_light : ValueAtMost l x → k ≼ l → ValueAtMost k x
  at_most_light h g =
      record {
        w = h.w;
        of_light =
            cross_trans (k.num ^ 1305) (range k) (l.num ^ 1305) (range l) (h.w.num ^ 8192) (h.w.den ^ 8192)
            (range_pos l) (light_power g) h.of_light;
        of_signal = h.of_signal;
      }

  pub at_least_light : ValueAtLeast l x → l ≼ k → ValueAtLeast k x
  at_least_light h g =
      record {
        w = h.w;
        of_light =
            cross_trans (h.w.num ^ 8192) (h.w.den ^ 8192) (l.num ^ 1305) (range l) (k.num ^ 1305) (range k)
            (range_pos l) h.of_light (light_power g);
        of_signal = h.of_signal;
      }

  pub above_light : ValueAbove l x → l ≼ k → ValueAbove k x
  above_light h g =
      record {
        w = h.w;
        of_light =
            cross_trans (h.w.num ^ 8192) (h.w.den ^ 8192) (l.num ^ 1305) (range l) (k.num ^ 1305) (range k)
            (range_pos l) h.of_light (light_power g);
        of_signal = h.of_signal;
      }

-- ---- k / 3504 is 256 k / 897,024
pub at_most_position : {l : Fraction} (k : ℕ) → ValueAtMost l (index_signal k) → ValueAtMost l (position_signal (256 * k))
at_most_position k h = at_most_signal_lem h (record { cross = omega arith })

pub at_least_position : {l : Fraction} (k : ℕ) → ValueAtLeast l (index_signal k) → ValueAtLeast l (position_signal (256 * k))
at_least_position k h = at_least_signal h (record { cross = omega arith })

pub above_position : {l : Fraction} (k : ℕ) → ValueAbove l (index_signal k) → ValueAbove l (position_signal (256 * k))
above_position k h = above_signal_lem h (record { cross = omega arith })

-- ---- r and w grow together
ratio_of_w : (a b c d : ℕ) → a * d ≤ c * b → ratio_num a b * ratio_den c d ≤ ratio_num c d * ratio_den a b
unfolding ratio_num ratio_den
ratio_of_w a b c d h = omega arith

w_of_ratio : (a b c d : ℕ) → ratio_num a b * ratio_den c d ≤ ratio_num c d * ratio_den a b → a * d ≤ c * b
unfolding ratio_num ratio_den
w_of_ratio a b c d h = omega arith

value_grows : (u v : Fraction) → u ≼ v → top u * bottom v ≤ top v * bottom u
value_grows u v h =
    cross_power 2523 (ratio_num u.num u.den) (ratio_den u.num u.den) (ratio_num v.num v.den) (ratio_den v.num v.den)
    (ratio_of_w u.num u.den v.num v.den h.cross)

nonzero : (n : ℕ) → suc n ≢ 0
nonzero n e = omega arith

-- a w at most that of l, and one at least that of l
between : (l u v : Fraction) → u.num ^ 8192 * range l ≤ l.num ^ 1305 * u.den ^ 8192
    → l.num ^ 1305 * v.den ^ 8192 ≤ v.num ^ 8192 * range l → u ≼ v
between l u v h k =
    record {
      cross = cross_root 8192 u.num u.den v.num v.den (nonzero 8191)
          (cross_trans (u.num ^ 8192) (u.den ^ 8192) (l.num ^ 1305) (range l) (v.num ^ 8192) (v.den ^ 8192) (range_pos l) h k);
    }

-- a signal at most V (l) is at most a signal that is at least V (k), for l ≤ k
pub signals_ordered : {l k x y : Fraction} → l ≼ k → ValueAtLeast l x → ValueAtMost k y → x ≼ y
signals_ordered {l} {k} {x} {y} g h j =
    let i = at_least_light h g in
    let u = i.w in
    let v = j.w in
    let r = cross_trans (x.num ^ 32) (x.den ^ 32) (top u) (bottom u) (top v) (bottom v) (bottom_pos u) i.of_signal
    (value_grows u v (between k u v i.of_light j.of_light)) in
    record {
      cross = cross_root 32 x.num x.den y.num y.den (nonzero 31)
          (cross_trans (x.num ^ 32) (x.den ^ 32) (top v) (bottom v) (y.num ^ 32) (y.den ^ 32) (bottom_pos v) r j.of_signal);
    }

-- a signal below V (l) is below a signal that is at least V (k), for l ≤ k
pub signals_apart : {l k x y : Fraction} → l ≼ k → ValueAbove l x → ValueAtMost k y → x ≺ y
signals_apart {l} {k} {x} {y} g h j =
    let i = above_light h g in
    let u = i.w in
    let v = j.w in
    let r = cross_lt_le (x.num ^ 32) (x.den ^ 32) (top u) (bottom u) (top v) (bottom v) (bottom_pos v) i.of_signal
    (value_grows u v (between k u v i.of_light j.of_light)) in
    record {
      cross = cross_root_lt 32 x.num x.den y.num y.den
          (cross_lt_le (x.num ^ 32) (x.den ^ 32) (top v) (bottom v) (y.num ^ 32) (y.den ^ 32) (one-le-pow 32 y.den y.pos) r j.of_signal);
    }

-- a light whose V is at most x is at most a light whose V is at least y, for x ≤ y
pub lights_ordered : {l k x y : Fraction} → x ≼ y → ValueAtMost l x → ValueAtLeast k y → l ≼ k
lights_ordered {l} {k} {x} {y} g j h =
    let i = at_least_signal h g in
    let v = j.w in
    let u = i.w in
    let r = cross_root 2523 (ratio_num v.num v.den) (ratio_den v.num v.den) (ratio_num u.num u.den) (ratio_den u.num u.den) (nonzero 2522)
    (cross_trans (top v) (bottom v) (x.num ^ 32) (x.den ^ 32) (top u) (bottom u) (one-le-pow 32 x.den x.pos) j.of_signal i.of_signal) in
    let w = cross_power 8192 v.num v.den u.num u.den (w_of_ratio v.num v.den u.num u.den r) in
    let p =
    cross_trans (l.num ^ 1305) (range l) (v.num ^ 8192) (v.den ^ 8192) (u.num ^ 8192) (u.den ^ 8192) (one-le-pow 8192 v.den v.pos) j.of_light w
    in
    let q = cross_root 1305 l.num (ten_thousand * l.den) k.num (ten_thousand * k.den) (nonzero 1304)
    (cross_trans (l.num ^ 1305) (range l) (u.num ^ 8192) (u.den ^ 8192) (k.num ^ 1305) (range k) (one-le-pow 8192 u.den u.pos) p i.of_light) in
    record { cross = le_of_mul-le-mul_right {k = ten_thousand} (omega (arith, q)) ten_thousand_pos }

-- a light whose V is at most x is below a light whose V is above y, for x ≤ y
pub lights_apart : {l k x y : Fraction} → x ≼ y → ValueAtMost l x → ValueAbove k y → l ≺ k
lights_apart {l} {k} {x} {y} g j h = go (dec_le (k.num * l.den) (l.num * k.den))
  where
    go : Dec (k.num * l.den ≤ l.num * k.den) → l ≺ k
    go (yes p) = absurd (not-le_of_lt (signals_apart (record { cross = p }) h j).cross g.cross)
    go (no p) = record { cross = lt_of_not-le p }
