-- The light of a signal: no lower fraction exceeds an upper one, and an upper one of a signal that is not black is above 0.
use mathlib.Core.Path.{◌≡◌, ap, ◌∙◌}
use mathlib.Core.Logic.{◌⊎◌, inl, inr}
use Prim.Native.Nat.{ℕ, ◌*◌, ◌^◌, ◌≤◌, ◌<◌, zero-le}
use native.Mathlib.Nat.{le_trans, le_of_eq, not-le_of_lt, one-le-pow, mul-pos, zero-mul, zero-lt-suc}
use native.Mathlib.Decide.{dec_le}
use native.Mathlib.Omega.{arith}
use lib.Dec.{leb→le}
use Rattle.laws.specs.Fraction.{Fraction, over, whole, ◌≼◌}
use Rattle.laws.specs.Side.{Side, low, high}
use Rattle.laws.proofs.FractionLaws.{≼_refl, zero-≼, ≼-zero, cross_trans, cross_power, cross_root}
use Rattle.quantity.specs.Units.{units, thousand, ten_thousand}
use Rattle.pq.specs.Pq.{ratio_num, ratio_den, ValueAtMost, ValueAtLeast}
use Rattle.pq.proofs.PqTests.{ratio_den_pos}
use Rattle.pq.proofs.PqLaws.{at_most_signal_lem, at_least_signal, signals_ordered, lights_ordered}
use Rattle.exact.specs.ExactValue.{Value, Light}
use Rattle.exact.proofs.ApartLaws.{Apart, by_sides}

-- ---- the order
ratio_num_pos : (a b : ℕ) → 0 < b → 0 < ratio_num a b
unfolding ratio_num
ratio_num_pos a b h = omega arith

-- no light has a value of 0
never_zero : {l x : Fraction} → x.num ≡ 0 → ¬ (ValueAtMost l x)
never_zero {l} {x} e h =
    let n = ratio_num h.w.num h.w.den in
    let d = ratio_den h.w.num h.w.den in
    not-le_of_lt (mul-pos (one-le-pow 2523 n (ratio_num_pos h.w.num h.w.den h.w.pos)) (one-le-pow 32 x.den x.pos))
    (le_trans h.of_signal (le_of_eq (ap (λ t. t ^ 32 * d ^ 2523) e ∙ zero-mul (d ^ 2523))))

pub lights_grow : {x y l k : Fraction} → x ≼ y → Light low x l → Light high y k → l ≼ k
unfolding Light Value
lights_grow {k = k} h (inl a) b = zero-≼ k (omega (arith, a.1))
lights_grow h (inr a) (inl b) = absurd (never_zero (≼-zero h b.0) a)
lights_grow h (inr a) (inr b) = lights_ordered h a b

pub light_ordered : (x : Fraction) {l k : Fraction} → Light low x l → Light high x k → l ≼ k
light_ordered x {l} {k} a b = lights_grow {x = x} {y = x} {l = l} {k = k} (≼_refl x) a b

-- an upper fraction of a light is one of every smaller signal's light, and a lower one above 0 of every larger signal's
pub light_of_less : {x y : Fraction} (l : Fraction) → x ≼ y → Light high y l → Light high x l
unfolding Light Value
light_of_less {x} {y} l h (inl a) = inl (≼-zero {p = x} {q = y} h a.0, a.1)
light_of_less l h (inr a) = inr (at_least_signal a h)

pub light_of_more : {x y : Fraction} (l : Fraction) → 0 < l.num → x ≼ y → Light low x l → Light low y l
unfolding Light Value
light_of_more l some h (inl a) = absurd (omega (arith, a.1))
light_of_more l some h (inr a) = inr (at_most_signal_lem a h)

pub value_ordered : (l : Fraction) {x y : Fraction} → Value low l x → Value high l y → x ≼ y
unfolding Value
value_ordered l a b = signals_ordered (≼_refl l) a b

pub values_apart : (l : Fraction) (s t : Side) (x y : Fraction) → Value s l x → Value t l y → Apart s t x y
values_apart l s t x y a b = by_sides (λ x. x) (λ u x. Value u l x) (λ m n. value_ordered l) s t {m = x} {n = y} a b

-- ---- how low and how high values are
-- that of no light is below one position
dark : (l : Fraction) → l.num ≡ 0 → ValueAtMost l (over 1 897025 (zero-lt-suc 897024))
unfolding ratio_num ratio_den
dark l e =
    record {
      w = over 0 1 (zero-lt-suc 0);
      of_light = le_trans (le_of_eq (ap (λ n. n ^ 1305 * 1 ^ 8192) e)) zero-le;
      of_signal = leb→le (3424 ^ 2523 * 897025 ^ 32) (1 ^ 32 * 4096 ^ 2523) tt;
    }

-- so that a signal of one position or more has no upper fraction 0
pub light_above_zero : (x l : Fraction) → x.den ≤ 897024 * x.num → Light high x l → 0 < l.num
unfolding Light Value
light_above_zero x l h a = go a (dec_le 1 l.num)
  where
    go : ((x.num ≡ 0) × (l.num ≡ 0)) ⊎ ValueAtLeast l x → Dec (1 ≤ l.num) → 0 < l.num
    go b (yes y) = y
    go (inl b) (no y) = absurd (not-le_of_lt x.pos (le_trans h (le_of_eq (ap (λ n. 897024 * n) b.0))))
    go (inr b) (no y) =
        let c = signals_ordered (≼_refl l) b (dark l (omega arith)) in
        absurd (omega (arith, h, c.cross, x.pos))

-- that of 1,000 cd/m2 is at least 7/10
pub of_thousand : Value low (whole thousand) (over 7 10 (zero-lt-suc 9))
unfolding Value ratio_num ratio_den thousand ten_thousand units
of_thousand =
    record {
      w = over 2 3 (zero-lt-suc 2);
      of_light = leb→le (2 ^ 8192 * 167772160000 ^ 1305) (16777216000 ^ 1305 * 3 ^ 8192) tt;
      of_signal = leb→le (7 ^ 32 * 165376 ^ 2523) (164704 ^ 2523 * 10 ^ 32) tt;
    }

-- no value is above 2, since r stays below 77216/76544
ratio_most : (a b : ℕ) → ratio_num a b * 76544 ≤ 77216 * ratio_den a b
unfolding ratio_num ratio_den
ratio_most a b = omega arith

pub at_most_two : (l x : Fraction) → Value low l x → x ≼ whole 2
unfolding Value
at_most_two l x h =
    let n = ratio_num h.w.num h.w.den in
    let d = ratio_den h.w.num h.w.den in
    let most = cross_power 2523 n d 77216 76544 (ratio_most h.w.num h.w.den) in
    let two = leb→le (77216 ^ 2523 * 1 ^ 32) (2 ^ 32 * 76544 ^ 2523) tt in
    let ratio = cross_trans (n ^ 2523) (d ^ 2523) (77216 ^ 2523) (76544 ^ 2523) (2 ^ 32) (1 ^ 32) (one-le-pow 2523 76544 (zero-lt-suc 76543)) most two in
    let value = cross_trans (x.num ^ 32) (x.den ^ 32) (n ^ 2523) (d ^ 2523) (2 ^ 32) (1 ^ 32)
    (one-le-pow 2523 d (ratio_den_pos h.w.num h.w.den h.w.pos)) h.of_signal ratio in
    record { cross = cross_root 32 x.num x.den 2 1 (λ e. omega arith) value }
