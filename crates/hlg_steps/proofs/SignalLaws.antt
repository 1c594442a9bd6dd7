-- Lower and upper fractions of the HLG signal: those of more light and of less, those further out, and that no lower one exceeds an upper one.
use mathlib.Core.Path.{sym, subst₂}
use mathlib.Core.Logic.{inl, inr}
use Prim.Native.Nat.{ℕ, ◌*◌, ◌≤◌, ◌<◌}
use native.Mathlib.Nat.{le_refl, lt_of_not-le, not-le_of_lt, mul-le-mul, mul-le-mul_left}
use native.Mathlib.Nat.{mul-le-mul_right, mul-lt-mul_of_pos_right, le_of_mul-le-mul_right, lt_of_mul-lt-mul_right, mul-pos, zero-lt-suc}
use native.Mathlib.Decide.{dec_le}
use native.Mathlib.Omega.{arith}
use lib.Dec.{lit≤}
use Rattle.laws.specs.Fraction.{Fraction, over, whole, ◌≼◌, ◌·◌}
use Rattle.laws.specs.Side.{low, high, Bounds}
use Rattle.laws.proofs.PowerLaws.{second, base_le}
use Rattle.laws.proofs.FractionLaws.{cross_trans, ≼_trans}
use Rattle.hlg_steps.specs.Exponential.{sum_num, sum_den, Exponential}
use Rattle.hlg_steps.specs.Signal.{inner_num, inner_den, below_c, slope, Logarithm, HlgSignal}
use Rattle.hlg_steps.proofs.SeriesLaws.{den_pos, sums_grow}
use Rattle.hlg_steps.proofs.LogarithmLaws.{logarithm_of_more, logarithm_of_less, lower_logarithm, upper_logarithm, logarithm_ordered}

-- ---- where the branches meet, at 1/12: the square root there is 1/2, and the logarithm a little above
meet : 100000000 * sum_den 17883277 10 ≤ sum_num 5991073 17883277 10 * 71533108
unfolding sum_den sum_num
meet = lit≤ tt

-- c − 1/2 over a is 5991073 / 17883277, and 1 − b is 0.71533108
below_half : (g : Fraction) → 2 * g.num ≤ g.den → 5991073 * slope g ≤ below_c g * 17883277
unfolding below_c slope
below_half g h = omega arith

inner_twelfth : (E : Fraction) → E.den < 12 * E.num → 71533108 * inner_den E ≤ inner_num E * 100000000
unfolding inner_num inner_den
inner_twelfth E h = omega arith

below_half_pos : (g : Fraction) → 2 * g.num ≤ g.den → 0 < below_c g
unfolding below_c
below_half_pos g h = omega (arith, g.pos)

-- above 1/12 a fraction up to 1/2 is a lower one
pub half_below : (E g : Fraction) → E.den < 12 * E.num → 2 * g.num ≤ g.den → Logarithm low E g
unfolding Logarithm Exponential
half_below E g h k =
    let p = below_c g in
    let q = slope g in
    let x = cross_trans 100000000 71533108 (sum_num 5991073 17883277 10) (sum_den 17883277 10) (sum_num p q 10) (sum_den q 10)
    (den_pos 17883277 10 (zero-lt-suc 17883276)) meet (sums_grow 5991073 17883277 p q 10 (below_half g k)) in
    let y : sum_den q 10 * 100000000 ≤ 71533108 * sum_num p q 10 = omega arith in
    let z : 71533108 * inner_den E ≤ inner_num E * 100000000 = inner_twelfth E h in
    inr (
      below_half_pos g k,
      (
        10,
        omega (
          arith,
          cross_trans (sum_den q 10) (sum_num p q 10) 71533108 100000000 (inner_num E) (inner_den E) (zero-lt-suc 99999999)
              y z,
        ),
      ),
    )

-- ---- the signal
squares_le : (x y : ℕ) → x * x ≤ y * y → x ≤ y
squares_le x y h = base_le 2 (omega arith) (subst₂ ◌≤◌ (sym (second x)) (sym (second y)) h)

-- up to 1/12 a lower fraction is at most 1/2, above it an upper one at least 1/2
half_root : (E g : Fraction) → 12 * E.num ≤ E.den → Bounds low (g · g) (whole 3 · E) → 2 * g.num ≤ g.den
half_root E g h b = squares_le (2 * g.num) g.den (omega (arith, quarter))
  where
    quarter : 4 * (g.num * g.num) ≤ g.den * g.den
    quarter = le_of_mul-le-mul_right {k = E.den} (omega (arith, b, mul-le-mul_right (g.den * g.den) h)) E.pos

half : Fraction
half = over 1 2 (zero-lt-suc 1)

half_above : (E g : Fraction) → E.den < 12 * E.num → Logarithm high E g → g.den ≤ 2 * g.num
unfolding half
half_above E g h a = omega (arith, (logarithm_ordered E half g (half_below E half h (le_refl 2)) a).cross)

-- light above 1/12 stays above when it grows
stays_above : (E F : Fraction) → E ≼ F → E.den < 12 * E.num → F.den < 12 * F.num
stays_above E F h l = lt_of_mul-lt-mul_right E.den (omega (arith, h.cross, mul-lt-mul_of_pos_right l F.pos))

pub signal_of_more : (E F g : Fraction) → E ≼ F → HlgSignal low E g → HlgSignal low F g
unfolding HlgSignal
signal_of_more E F g h a = go (dec_le (12 * F.num) F.den) a
  where
    go : Dec (12 * F.num ≤ F.den) → HlgSignal low E g → HlgSignal low F g
    go (yes l) (inl b) =
        inl (
          l,
          cross_trans (g.num * g.num) (g.den * g.den) (3 * E.num) (1 * E.den) (3 * F.num) (1 * F.den) (mul-pos (zero-lt-suc 0) E.pos) b.1
              (omega (arith, h.cross)),
        )
    go (no l) (inl b) = inr (lt_of_not-le l, half_below F g (lt_of_not-le l) (half_root E g b.0 b.1))
    go (yes l) (inr b) = absurd (not-le_of_lt (stays_above E F h b.0) l)
    go (no l) (inr b) = inr (lt_of_not-le l, logarithm_of_more E F g h b.1)

pub signal_of_less : (E F g : Fraction) → E ≼ F → HlgSignal high F g → HlgSignal high E g
unfolding HlgSignal
signal_of_less E F g h a = go (dec_le (12 * E.num) E.den) a
  where
    go : Dec (12 * E.num ≤ E.den) → HlgSignal high F g → HlgSignal high E g
    go (yes l) (inl b) =
        inl (
          l,
          cross_trans (3 * E.num) (1 * E.den) (3 * F.num) (1 * F.den) (g.num * g.num) (g.den * g.den) (mul-pos (zero-lt-suc 0) F.pos)
              (omega (arith, h.cross)) b.1,
        )
    go (yes l) (inr b) =
        let k = half_above F g b.0 b.1 in
        inl (l, omega (arith, mul-le-mul_right (g.den * g.den) l, mul-le-mul_left E.den (mul-le-mul k k)))
    go (no l) (inl b) = absurd (not-le_of_lt (stays_above E F h (lt_of_not-le l)) b.0)
    go (no l) (inr b) = inr (lt_of_not-le l, logarithm_of_less E F g h b.1)

squares_grow : (g h : Fraction) → g ≼ h → g · g ≼ h · h
squares_grow g h k = record { cross = omega (arith, mul-le-mul k.cross k.cross) }

pub lower_signal : (E g h : Fraction) → h ≼ g → HlgSignal low E g → HlgSignal low E h
unfolding HlgSignal
lower_signal E g h k (inl a) = let b : g · g ≼ whole 3 · E = record { cross = a.1 } in inl (a.0, (≼_trans (squares_grow h g k) b).cross)
lower_signal E g h k (inr a) = inr (a.0, lower_logarithm E g h k a.1)

pub upper_signal : (E g h : Fraction) → g ≼ h → HlgSignal high E g → HlgSignal high E h
unfolding HlgSignal
upper_signal E g h k (inl a) = let b : whole 3 · E ≼ g · g = record { cross = a.1 } in inl (a.0, (≼_trans b (squares_grow g h k)).cross)
upper_signal E g h k (inr a) = inr (a.0, upper_logarithm E g h k a.1)

pub signal_ordered : (E g h : Fraction) → HlgSignal low E g → HlgSignal high E h → g ≼ h
unfolding HlgSignal
signal_ordered E g h (inl a) (inl b) =
    let x : g · g ≼ whole 3 · E = record { cross = a.1 } in
    let y : whole 3 · E ≼ h · h = record { cross = b.1 } in
    record { cross = squares_le (g.num * h.den) (h.num * g.den) (omega (arith, (≼_trans x y).cross)) }
signal_ordered E g h (inl a) (inr b) = absurd (not-le_of_lt b.0 a.0)
signal_ordered E g h (inr a) (inl b) = absurd (not-le_of_lt a.0 b.0)
signal_ordered E g h (inr a) (inr b) = logarithm_ordered E g h a.1 b.1
