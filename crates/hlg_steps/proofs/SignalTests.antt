-- Computed tests that a fraction is a lower or an upper one of the HLG signal of a scene light, or of its logarithm, by 32 partial sums.
use mathlib.Core.Path.{◌≡◌, refl}
use mathlib.Core.Bool.{Bool, true, false}
use mathlib.Core.Logic.{inl, inr}
use Prim.Native.Nat.{ℕ, ◌*◌, ◌≤◌, ◌<◌}
use native.Mathlib.Nat.{mul-pos}
use native.Mathlib.Omega.{arith}
use lib.Dec.{T, leb, ltb, leb→le, lit<}
use borrow.Author.Tests.{ltb-true, ltb-false, leb-true, leb-false}
use Rattle.laws.specs.Fraction.{Fraction, whole, ◌·◌}
use Rattle.laws.specs.Side.{Side, low, high, other, At}
use Rattle.hlg_steps.specs.Signal.{inner_num, inner_den, above_c, below_c, slope, Logarithm, HlgSignal}
use Rattle.hlg_steps.proofs.ExponentialLaws.{exponential_test, exponential_test_lem}

pub slope_pos : (g : Fraction) → 0 < slope g
unfolding slope
slope_pos g = mul-pos (lit< tt) g.pos

-- the logarithm, by whether the exponent is negative
abbrev by_exponent : Bool → Side → Fraction → Fraction → Bool
by_exponent false s E g = exponential_test (other s) (inner_num E) (inner_den E) (above_c g) (slope g)
by_exponent true s E g = exponential_test s (inner_den E) (inner_num E) (below_c g) (slope g)

abbrev pub logarithm_test : Side → Fraction → Fraction → Bool
logarithm_test s E g = by_exponent (ltb 0 (below_c g)) s E g

pub logarithm_test_lem : (s : Side) (E g : Fraction) → T (logarithm_test s E g) → Logarithm s E g
unfolding Logarithm
logarithm_test_lem s E g t = go (ltb 0 (below_c g)) refl t
  where
    none : below_c g ≤ 0 → below_c g ≡ 0
    none h = omega arith

    go : (b : Bool) → ltb 0 (below_c g) ≡ b → T (by_exponent b s E g) → Logarithm s E g
    go false e t = inl (none (ltb-false 0 (below_c g) e), exponential_test_lem (other s) (inner_num E) (inner_den E) (above_c g) (slope g) (slope_pos g) t)
    go true e t = inr (ltb-true 0 (below_c g) e, exponential_test_lem s (inner_den E) (inner_num E) (below_c g) (slope g) (slope_pos g) t)

-- the signal, by whether the light is at most 1/12
abbrev at_test : Side → ℕ → ℕ → Bool
at_test low a b = leb a b
at_test high a b = leb b a

at_test_lem : (s : Side) (a b : ℕ) → T (at_test s a b) → At s a b
at_test_lem low a b t = leb→le a b t
at_test_lem high a b t = leb→le b a t

abbrev by_light : Bool → Side → Fraction → Fraction → Bool
by_light true s E g =
    let p : Fraction = g · g in
    let q : Fraction = whole 3 · E in
    at_test s (p.num * q.den) (q.num * p.den)
by_light false s E g = logarithm_test s E g

abbrev pub signal_test : Side → Fraction → Fraction → Bool
signal_test s E g = by_light (leb (12 * E.num) E.den) s E g

pub signal_test_lem : (s : Side) (E g : Fraction) → T (signal_test s E g) → HlgSignal s E g
unfolding HlgSignal
signal_test_lem s E g t = go (leb (12 * E.num) E.den) refl t
  where
    go : (b : Bool) → leb (12 * E.num) E.den ≡ b → T (by_light b s E g) → HlgSignal s E g
    go true e t =
        let p : Fraction = g · g in
        let q : Fraction = whole 3 · E in
        inl (leb-true (12 * E.num) E.den e, at_test_lem s (p.num * q.den) (q.num * p.den) t)
    go false e t = inr (leb-false (12 * E.num) E.den e, logarithm_test_lem s E g t)
