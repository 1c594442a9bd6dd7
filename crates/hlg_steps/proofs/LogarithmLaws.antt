-- Lower and upper fractions of a ln(12E − b) + c: those of more light and of less, those further out, and that no lower one exceeds an upper one.
use mathlib.Core.Path.{◌≡◌, ap, ◌∙◌}
use mathlib.Core.Logic.{inl, inr}
use Prim.Native.Nat.{ℕ, ◌+◌, ◌-◌, ◌*◌, ◌≤◌, ◌<◌}
use native.Mathlib.Nat.{le_trans, le_of_eq, not-le_of_lt, mul-le-mul_right, le_of_mul-le-mul_right, mul-pos}
use native.Mathlib.Decide.{dec_le}
use native.Mathlib.Omega.{arith}
use lib.Dec.{lit<}
use Rattle.laws.specs.Fraction.{Fraction, ◌≼◌}
use Rattle.laws.specs.Side.{low, high}
use Rattle.laws.proofs.DivisionLaws.{sub_mul}
use Rattle.laws.proofs.FractionLaws.{cross_trans}
use Rattle.hlg_steps.specs.Exponential.{sum_num, sum_den, Exponential}
use Rattle.hlg_steps.specs.Signal.{inner_num, inner_den, above_c, below_c, slope, Logarithm}
use Rattle.hlg_steps.proofs.ExponentialLaws.{exponent_moves, both_sides, exponents_ordered, at_least_one, by_one, low_pos, not_across}
use Rattle.hlg_steps.proofs.SignalTests.{slope_pos}

-- ---- what goes into the exponential: 12E − b, and g − c and c − g. Nothing here depends on what a, b and c are
inner_pos : (E : Fraction) → 0 < inner_den E
unfolding inner_den
inner_pos E = mul-pos E.pos (lit< tt)

inner_grows : (E F : Fraction) → E ≼ F → inner_num E * inner_den F ≤ inner_num F * inner_den E
unfolding inner_num inner_den
inner_grows E F h = simp sub_mul (omega (arith, h.cross))

below_falls : (g h : Fraction) → g ≼ h → below_c h * slope g ≤ below_c g * slope h
unfolding below_c slope
below_falls g h k = simp sub_mul (omega (arith, k.cross))

above_grows : (g h : Fraction) → g ≼ h → above_c g * slope h ≤ above_c h * slope g
unfolding above_c slope
above_grows g h k = simp sub_mul (omega (arith, k.cross))

-- past c, a larger fraction is too
past_c : (g h : Fraction) → g ≼ h → below_c g ≡ 0 → ¬ (0 < below_c h)
past_c g h k e l = not-le_of_lt (mul-pos l (slope_pos g)) (le_trans (below_falls g h k) (le_of_eq (ap (λ (n : ℕ). n * slope h) e ∙ omega arith)))

-- and back, c being K / N: x / y and z / w are ordered as what they lack of c, as what they have past it, and by c between
module _ (K N x y z w : ℕ) where
  lack : (S : ℕ) → 0 < N → 0 < S → 0 < K * y - x * N → (K * w - z * N) * (S * y) ≤ (K * y - x * N) * (S * w) → x * w ≤ z * y
  lack S hn hs l h =
      let u = K * y - x * N in
      let v = K * w - z * N in
      let eu : u + x * N ≡ K * y = omega arith in
      let ev : K * w ≤ v + z * N = omega arith in
      let k : v * y ≤ u * w = le_of_mul-le-mul_right {k = S} (omega (arith, h)) hs in
      le_of_mul-le-mul_right {k = N} (omega (arith, ap (λ (n : ℕ). n * w) eu, mul-le-mul_right y ev, k)) hn

  excess : (S : ℕ) → 0 < N → 0 < S → K * w - z * N ≡ 0 → (x * N - K * y) * (S * w) ≤ (z * N - K * w) * (S * y) → x * w ≤ z * y
  excess S hn hs l h =
      let u = x * N - K * y in
      let v = z * N - K * w in
      let eu : x * N ≤ u + K * y = omega arith in
      let ev : v + K * w ≡ z * N = omega arith in
      let k : u * w ≤ v * y = le_of_mul-le-mul_right {k = S} (omega (arith, h)) hs in
      le_of_mul-le-mul_right {k = N} (omega (arith, mul-le-mul_right w eu, ap (λ (n : ℕ). n * y) ev, k)) hn

  between : 0 < N → 0 < K * y - x * N → K * w - z * N ≡ 0 → x * w ≤ z * y
  between hn l e =
      let a : x * N ≤ K * y = omega arith in
      let b : K * w ≤ z * N = omega arith in
      le_of_mul-le-mul_right {k = N} (omega (arith, mul-le-mul_right w a, mul-le-mul_right y b)) hn

by_below : (g h : Fraction) → 0 < below_c g → below_c h * slope g ≤ below_c g * slope h → g ≼ h
unfolding below_c slope
by_below g h l k = record { cross = lack _ _ g.num g.den h.num h.den _ (lit< tt) (lit< tt) l k }

by_above : (g h : Fraction) → below_c h ≡ 0 → above_c g * slope h ≤ above_c h * slope g → g ≼ h
unfolding below_c above_c slope
by_above g h l k = record { cross = excess _ _ g.num g.den h.num h.den _ (lit< tt) (lit< tt) l k }

by_c : (g h : Fraction) → 0 < below_c g → below_c h ≡ 0 → g ≼ h
unfolding below_c
by_c g h l e = record { cross = between _ _ g.num g.den h.num h.den (lit< tt) l e }

-- ---- the logarithm
-- a lower fraction of E is one of any larger light, an upper one of any smaller
pub logarithm_of_more : (E F g : Fraction) → E ≼ F → Logarithm low E g → Logarithm low F g
unfolding Logarithm Exponential
logarithm_of_more E F g h (inl a) =
    let p = above_c g in
    let q = slope g in
    inl (a.0, λ n. cross_trans (sum_num p q n) (sum_den q n) (inner_num E) (inner_den E) (inner_num F) (inner_den F) (inner_pos E) (a.1 n) (inner_grows E F h))
logarithm_of_more E F g h (inr a) =
    let n = a.1.0 in
    let S = sum_num (below_c g) (slope g) n in
    let D = sum_den (slope g) n in
    let k : D * inner_den E ≤ inner_num E * S = omega (arith, a.1.1) in
    inr (a.0, (n, omega (arith, cross_trans D S (inner_num E) (inner_den E) (inner_num F) (inner_den F) (inner_pos E) k (inner_grows E F h))))

pub logarithm_of_less : (E F g : Fraction) → E ≼ F → Logarithm high F g → Logarithm high E g
unfolding Logarithm Exponential
logarithm_of_less E F g h (inl a) =
    let n = a.1.0 in
    inl (
      a.0,
      (
        n,
        cross_trans (inner_num E) (inner_den E) (inner_num F) (inner_den F) (sum_num (above_c g) (slope g) n) (sum_den (slope g) n) (inner_pos F)
            (inner_grows E F h) a.1.1,
      ),
    )
logarithm_of_less E F g h (inr a) = inr (a.0, λ n. less n (a.1 n))
  where
    less : (n : ℕ) → sum_num (below_c g) (slope g) n * inner_num F ≤ inner_den F * sum_den (slope g) n
        → sum_num (below_c g) (slope g) n * inner_num E ≤ inner_den E * sum_den (slope g) n
    less n k =
        let S = sum_num (below_c g) (slope g) n in
        let D = sum_den (slope g) n in
        let l : inner_num F * S ≤ D * inner_den F = omega arith in
        omega (arith, cross_trans (inner_num E) (inner_den E) (inner_num F) (inner_den F) D S (inner_pos F) (inner_grows E F h) l)

-- a fraction below a lower one is a lower one, above an upper one an upper one
pub lower_logarithm : (E g h : Fraction) → h ≼ g → Logarithm low E g → Logarithm low E h
unfolding Logarithm
lower_logarithm E g h k a = go (dec_le 1 (below_c h)) a
  where
    go : Dec (1 ≤ below_c h) → Logarithm low E g → Logarithm low E h
    go (no l) (inl b) =
        inl (omega arith, exponent_moves high (inner_num E) (inner_den E) (above_c g) (slope g) (above_c h) (slope h) (slope_pos g) (above_grows h g k) b.1)
    go (yes l) (inl b) = inr (l, by_one (inner_den E) (inner_num E) (below_c h) (slope h) (at_least_one (inner_num E) (inner_den E) (above_c g) (slope g) b.1))
    go (no l) (inr b) = absurd (past_c h g k (omega arith) b.0)
    go (yes l) (inr b) =
        inr (l, exponent_moves low (inner_den E) (inner_num E) (below_c g) (slope g) (below_c h) (slope h) (slope_pos g) (below_falls h g k) b.1)

pub upper_logarithm : (E g h : Fraction) → g ≼ h → Logarithm high E g → Logarithm high E h
unfolding Logarithm
upper_logarithm E g h k a = go (dec_le 1 (below_c h)) a
  where
    go : Dec (1 ≤ below_c h) → Logarithm high E g → Logarithm high E h
    go (no l) (inl b) =
        inl (omega arith, exponent_moves low (inner_num E) (inner_den E) (above_c g) (slope g) (above_c h) (slope h) (slope_pos g) (above_grows g h k) b.1)
    go (yes l) (inl b) = absurd (past_c g h k b.0 l)
    go (no l) (inr b) =
        inl (omega arith, by_one (inner_num E) (inner_den E) (above_c h) (slope h) (at_least_one (inner_den E) (inner_num E) (below_c g) (slope g) b.1))
    go (yes l) (inr b) =
        inr (l, exponent_moves high (inner_den E) (inner_num E) (below_c g) (slope g) (below_c h) (slope h) (slope_pos g) (below_falls g h k) b.1)

pub logarithm_ordered : (E g h : Fraction) → Logarithm low E g → Logarithm high E h → g ≼ h
unfolding Logarithm
logarithm_ordered E g h (inl a) (inl b) =
    by_above g h b.0 (exponents_ordered (inner_num E) (inner_den E) (above_c g) (slope g) (above_c h) (slope h) (inner_pos E) (slope_pos h) a.1 b.1)
logarithm_ordered E g h (inl a) (inr b) =
    absurd (not_across (inner_num E) (inner_den E) (above_c g) (slope g) (below_c h) (slope h) (inner_pos E) b.0 a.1 b.1)
logarithm_ordered E g h (inr a) (inl b) = by_c g h a.0 b.0
logarithm_ordered E g h (inr a) (inr b) =
    let some : 0 < inner_num E = low_pos (inner_den E) (inner_num E) (below_c g) (slope g) (inner_pos E) (slope_pos g) a.1 in
    by_below g h a.0 (exponents_ordered (inner_den E) (inner_num E) (below_c h) (slope h) (below_c g) (slope g) some (slope_pos g) b.1 a.1)

-- only c is on both sides
pub logarithm_both : (E g : Fraction) → Logarithm low E g → Logarithm high E g → (above_c g ≡ 0) × (below_c g ≡ 0)
unfolding Logarithm
logarithm_both E g (inl a) (inl b) = (both_sides (inner_num E) (inner_den E) (above_c g) (slope g) (inner_pos E) a.1 b.1, a.0)
logarithm_both E g (inl a) (inr b) = absurd (omega (arith, a.0, b.0))
logarithm_both E g (inr a) (inl b) = absurd (omega (arith, a.0, b.0))
logarithm_both E g (inr a) (inr b) =
    let some : 0 < inner_num E = low_pos (inner_den E) (inner_num E) (below_c g) (slope g) (inner_pos E) (slope_pos g) a.1 in
    let none : below_c g ≡ 0 = both_sides (inner_den E) (inner_num E) (below_c g) (slope g) some b.1 a.1 in
    absurd (omega (arith, a.0))
