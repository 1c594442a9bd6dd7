-- The PQ value of a light and the rule of the light table (scope, Light: PQ value). Lights and signals are fractions, light in units.
-- Light l has the PQ value V with V^32 = r^2523, r = (3424 + 77216w) / (4096 + 76544w), w^8192 = (l / 10,000N)^1305. Every power is
-- cross-multiplied; r grows with w, so a fraction on one side of w gives a fraction on the same side of V.
use Rattle.std.specs.Prelude.{◌≡◌, List, ℕ, zero, suc, min, ◌+◌, ◌-◌, ◌*◌, ◌^◌, ◌≤◌, ◌<◌, get_or}
use Rattle.std.proofs.Common.{zero-lt-suc}
use Rattle.laws.specs.Fraction.{Fraction, over}
use Rattle.quantity.specs.Units.{ten_thousand}

-- SMPTE ST 2084's constants: w is the light to the power m1 = 1305/8192 (2610/16384), r is (c1 + c2 w) / (1 + c3 w) with c1 = 3424/4096,
-- c2 = 77216/4096 (2413/128) and c3 = 76544/4096 (2392/128), and V is r to the power m2 = 2523/32.
-- r at w = a / b is ratio_num a b / ratio_den a b
unfoldable pub ratio_num : ℕ → ℕ → ℕ
ratio_num a b = 3424 * b + 77216 * a

unfoldable pub ratio_den : ℕ → ℕ → ℕ
ratio_den a b = 4096 * b + 76544 * a

-- V(l) ≤ x: some fraction w is at least that of l, and its V is at most x
pub record ValueAtMost (l x : Fraction) : Type 0 where
  pub w : Fraction
  pub of_light : l.num ^ 1305 * w.den ^ 8192 ≤ w.num ^ 8192 * (ten_thousand * l.den) ^ 1305
  pub of_signal : ratio_num w.num w.den ^ 2523 * x.den ^ 32 ≤ x.num ^ 32 * ratio_den w.num w.den ^ 2523

-- x ≤ V(l): some fraction w is at most that of l, and its V is at least x
pub record ValueAtLeast (l x : Fraction) : Type 0 where
  pub w : Fraction
  pub of_light : w.num ^ 8192 * (ten_thousand * l.den) ^ 1305 ≤ l.num ^ 1305 * w.den ^ 8192
  pub of_signal : x.num ^ 32 * ratio_den w.num w.den ^ 2523 ≤ ratio_num w.num w.den ^ 2523 * x.den ^ 32

-- x < V(l)
pub record ValueAbove (l x : Fraction) : Type 0 where
  pub w : Fraction
  pub of_light : w.num ^ 8192 * (ten_thousand * l.den) ^ 1305 ≤ l.num ^ 1305 * w.den ^ 8192
  pub of_signal : x.num ^ 32 * ratio_den w.num w.den ^ 2523 < ratio_num w.num w.den ^ 2523 * x.den ^ 32

-- the signal k/3504 of the table's index k, and the signal q/897,024 of a position q
abbrev pub index_signal : ℕ → Fraction
index_signal k = over k 3504 (zero-lt-suc 3503)

abbrev pub position_signal : ℕ → Fraction
position_signal q = over q 897024 (zero-lt-suc 897023)

-- entry k of a table of 3,505 lights, whatever they are; past its end the last one
abbrev pub entry_in : List ℕ → ℕ → ℕ
entry_in t k = get_or t (min k 3504) 0

-- the lights whose nearest whole unit is p, halves up (request 05): from p − 1/2 on, below p + 1/2. No light is below 0, so for p = 0 from 0 on
abbrev pub lower_end : ℕ → Fraction
lower_end p = over (2 * p - 1) 2 (zero-lt-suc 1)

abbrev pub upper_end : ℕ → Fraction
upper_end p = over (2 * p + 1) 2 (zero-lt-suc 1)

-- p is the right entry at index k: the light of signal k/3504 in whole units
unfoldable pub IsEntry : ℕ → ℕ → Type 0
IsEntry zero p = p ≡ 0
IsEntry (suc k) p = ValueAtMost (lower_end p) (index_signal (suc k)) × ValueAbove (upper_end p) (index_signal (suc k))
