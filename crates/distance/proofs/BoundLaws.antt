-- Two codes that meet a bound are as near each other as twice the bound allows, since no lower fraction exceeds an upper one.
use mathlib.Core.Path.{◌≡◌}
use mathlib.Core.Logic.{inl, inr}
use Prim.Native.Nat.{ℕ, ◌+◌, ◌*◌, ◌≤◌, ◌<◌}
use native.Mathlib.Nat.{mul-pos, mul-le-mul_left, mul-le-mul_right, mul-lt-mul_of_pos_right, le_of_mul-le-mul_right, lt_of_mul-lt-mul_right}
use native.Mathlib.Omega.{arith}
use Rattle.laws.specs.Fraction.{Fraction, ◌≼◌}
use Rattle.laws.specs.Side.{low, high}
use Rattle.quantity.specs.Component.{Component}
use Rattle.exact.specs.ExactValue.{Given, Signal}
use Rattle.exact.proofs.BentLaws.{Sound}
use Rattle.exact.proofs.ValueLaws.{ordered}
use Rattle.distance.specs.Demand.{LessThan, AtMost, Enclosed}

module _ {G : Given} (S : Sound G) (peak : ℕ) (i : Component) where
  enclosures_ordered : {A B : Fraction → Type 0} (x : Enclosed G peak i A) (y : Enclosed G peak i B) → x.fraction low ≼ y.fraction high
  enclosures_ordered x y = ordered S peak i (x.signals low) (y.signals high)

  pub near_codes : (n c d : ℕ) → Enclosed G peak i (LessThan n c) → Enclosed G peak i (LessThan n d) → c < d + 2 * n
  near_codes n c d x y = go (x.fraction low) (y.fraction high) (enclosures_ordered x y) (x.inside low) (y.inside high)
    where
      go : (g h : Fraction) → g ≼ h → LessThan n c g → LessThan n d h → c < d + 2 * n
      go g h o u v =
          lt_of_mul-lt-mul_right (g.den * h.den)
          (omega (arith, o.cross, mul-lt-mul_of_pos_right u.above h.pos, mul-lt-mul_of_pos_right v.below g.pos))

  -- so two deliveries of a narrow-range picture under one peak differ by a code at most
  pub neighbours : (c d : ℕ) → Enclosed G peak i (LessThan 1 c) → Enclosed G peak i (LessThan 1 d) → c ≤ d + 1
  neighbours c d x y = omega (arith, near_codes 1 c d x y)

  pub nearer_codes : (n k c d : ℕ) → Enclosed G peak i (AtMost n k c) → Enclosed G peak i (AtMost n k d) → k * c ≤ k * d + 2 * n
  nearer_codes n k c d x y = go (x.fraction low) (y.fraction high) (enclosures_ordered x y) (x.inside low) (y.inside high)
    where
      go : (g h : Fraction) → g ≼ h → AtMost n k c g → AtMost n k d h → k * c ≤ k * d + 2 * n
      go g h o u v =
          le_of_mul-le-mul_right {k = g.den * h.den}
          (omega (arith, mul-le-mul_left k o.cross, mul-le-mul_right h.den u.above, mul-le-mul_right g.den v.below)) (mul-pos g.pos h.pos)

  -- in a black pixel either bound of narrow range admits the code 64 alone
  black : (g : Fraction) → G.level ≡ 0 → Signal G low peak i g → g.num ≡ 0
  unfolding Signal
  black g e (inl a) = omega (arith, a.1)
  black g e (inr a) = absurd (omega (arith, a.0))

  pub black_near : (d : ℕ) → G.level ≡ 0 → Enclosed G peak i (LessThan 1 d) → d ≡ 64
  black_near d e x = go (x.fraction low) (black (x.fraction low) e (x.signals low)) (x.inside low)
    where
      go : (g : Fraction) → g.num ≡ 0 → LessThan 1 d g → d ≡ 64
      go g z u =
          let more : 63 < d = lt_of_mul-lt-mul_right g.den (omega (arith, u.below)) in
          let less : d < 65 = lt_of_mul-lt-mul_right g.den (omega (arith, u.above)) in
          omega arith

  pub black_nearer : (d : ℕ) → G.level ≡ 0 → Enclosed G peak i (AtMost 9 16 d) → d ≡ 64
  black_nearer d e x = go (x.fraction low) (black (x.fraction low) e (x.signals low)) (x.inside low)
    where
      go : (g : Fraction) → g.num ≡ 0 → AtMost 9 16 d g → d ≡ 64
      go g z u =
          let more : 16 * d ≤ 16 * 64 + 9 = le_of_mul-le-mul_right {k = g.den} (omega (arith, u.above)) g.pos in
          let less : 16 * 64 ≤ 16 * d + 9 = le_of_mul-le-mul_right {k = g.den} (omega (arith, u.below)) g.pos in
          omega arith
