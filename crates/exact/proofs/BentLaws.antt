-- The bent light of whatever a pixel gives: no lower fraction exceeds an upper one, and an upper one of a pixel that is not black is above 0.
use mathlib.Core.Logic.{◌⊎◌, inl, inr}
use Prim.Native.Nat.{ℕ, ◌*◌, ◌≤◌, ◌<◌}
use native.Mathlib.Nat.{le_refl, le_of_lt, lt_of_not-le, not-le_of_lt, mul-pos, mul-le-mul_right, le_of_mul-le-mul_right}
use native.Mathlib.Decide.{dec_le}
use native.Mathlib.Omega.{arith}
use Rattle.laws.specs.Fraction.{Fraction, over, whole, ◌≼◌}
use Rattle.laws.specs.Side.{low, high}
use Rattle.laws.proofs.FractionLaws.{≼_trans, zero-≼}
use Rattle.quantity.specs.Units.{thousand}
use Rattle.quantity.specs.Component.{Component}
use Rattle.exact.specs.ExactValue.{Light, Given, Bent, Straight, Smaller, BentLight, thousand_pos}
use Rattle.exact.proofs.LightLaws.{lights_grow, light_of_less, light_above_zero}
use Rattle.exact.proofs.BentSignalLaws.{bent_signal_ordered, bent_signal_least, bent_signal_most, bent_signal_straight}

-- what is asked of a pixel's fractions: their order, and what is above 0 in a pixel that is not black
pub record Sound (G : Given) : Type 0 where
  pub own : {i : Component} {l k : Fraction} → G.Own low i l → G.Own high i k → l ≼ k
  pub most : {l k : Fraction} → G.Most low l → G.Most high k → l ≼ k
  pub signals : {x z : Fraction} → G.X low x → G.X high z → x ≼ z
  -- the brightest light is that of X
  pub under : {l z : Fraction} → 0 < l.num → G.Most low l → G.X high z → Light low z l
  pub above : {k x : Fraction} → G.Most high k → G.X low x → Light high x k
  pub lit : 0 < G.level → (i : Component) × ((l : Fraction) → G.Own high i l → 0 < l.num)
  pub most_lit : (l : Fraction) → 0 < G.level → G.Most high l → 0 < l.num
  pub signal_lit : (x l : Fraction) → 0 < G.level → G.X high x → Light high x l → 0 < l.num

-- ---- the bent light
module _ {G : Given} (S : Sound G) (peak : ℕ) {l k : Fraction} where
  bends_ordered : Bent G low peak l → Bent G high peak k → l ≼ k
  bends_ordered a b =
      let e = a.ends in
      let f = b.ends in
      let signals = bent_signal_ordered e f a.x b.x a.v b.v (S.signals a.at b.at).cross a.bent b.bent in
      lights_grow {x = over a.v e.q e.pos} {y = over b.v f.q f.pos} {l = l} {k = k} (record { cross = signals }) a.light b.light

  -- below the knee: a lower light is that of the upper X, and of the smaller of two that an upper bent signal is at least
  straight_bent : 0 < l.num → Straight G low peak l → Bent G high peak k → l ≼ k
  straight_bent some a b = go (dec_le (a.x * b.ends.q) (b.x * a.ends.q))
    where
      up_to : (y : ℕ) → y ≤ b.x * a.ends.q → y ≤ a.x * b.ends.q → y ≤ b.v * a.ends.q
      up_to y = bent_signal_straight a.ends b.ends a.x b.x b.v y (omega (arith, a.below)) b.bent

      by : (x : Fraction) → G.X high x → x ≼ over b.v b.ends.q b.ends.pos → l ≼ k
      by x at less = lights_grow {x = x} {y = over b.v b.ends.q b.ends.pos} {l = l} {k = k} less (S.under some a.light at) b.light

      go : Dec (a.x * b.ends.q ≤ b.x * a.ends.q) → l ≼ k
      go (yes h) = by (over a.x a.ends.q a.ends.pos) a.at (record { cross = up_to (a.x * b.ends.q) h (le_refl _) })
      go (no h) =
          let reach = up_to (b.x * a.ends.q) (le_refl _) (le_of_lt (lt_of_not-le h)) in
          let less : b.x ≤ b.v = le_of_mul-le-mul_right {k = a.ends.q} reach a.ends.pos in
          by (over b.x b.ends.q b.ends.pos) b.at (record { cross = mul-le-mul_right b.ends.q less })

  -- and an upper light is that of the lower X, which a lower bent signal does not exceed
  bent_straight : Bent G low peak l → Straight G high peak k → l ≼ k
  bent_straight a b =
      let e = a.ends in
      let less = mul-le-mul_right e.q (bent_signal_most e a.x a.v a.bent) in
      lights_grow {x = over a.v e.q e.pos} {y = over a.x e.q e.pos} {l = l} {k = k} (record { cross = less }) a.light
      (S.above b.light a.at)

  curves_ordered : Straight G low peak l ⊎ Bent G low peak l → Straight G high peak k ⊎ Bent G high peak k → l ≼ k
  curves_ordered (inl a) (inl b) = S.most a.light b.light
  curves_ordered (inl a) (inr b) = go (dec_le 1 l.num)
    where
      go : Dec (1 ≤ l.num) → l ≼ k
      go (yes some) = straight_bent some a b
      go (no none) = zero-≼ k (omega arith)
  curves_ordered (inr a) (inl b) = bent_straight a b
  curves_ordered (inr a) (inr b) = bends_ordered a b

  pub bent_light_ordered : BentLight G low peak l → BentLight G high peak k → l ≼ k
  unfolding BentLight
  bent_light_ordered (inl a) (inl b) = go b.1
    where
      go : Smaller G high k → l ≼ k
      go (inl c) = ≼_trans {q = whole thousand} (record { cross = omega (arith, a.1.0) }) (record { cross = omega (arith, c) })
      go (inr c) = S.most a.1.1 c
  bent_light_ordered (inl a) (inr b) = absurd (not-le_of_lt b.0 a.0)
  bent_light_ordered (inr a) (inl b) = absurd (not-le_of_lt a.0 b.0)
  bent_light_ordered (inr a) (inr b) = curves_ordered a.1 b.1

-- an upper one is above 0
module _ {G : Given} (S : Sound G) (peak : ℕ) (l : Fraction) (seen : 0 < G.level) where
  bends_pos : Bent G high peak l → 0 < l.num
  bends_pos b = go (bent_signal_least b.ends b.x b.v b.bent)
    where
      go : (b.x ≤ b.v) ⊎ (b.ends.q ≤ 20 * b.v) → 0 < l.num
      go (inl h) =
          let x = over b.x b.ends.q b.ends.pos in
          let v = over b.v b.ends.q b.ends.pos in
          S.signal_lit x l seen b.at (light_of_less {x = x} {y = v} l (record { cross = mul-le-mul_right b.ends.q h }) b.light)
      go (inr h) = light_above_zero (over b.v b.ends.q b.ends.pos) l (omega (arith, h)) b.light

  pub bent_light_pos : BentLight G high peak l → 0 < l.num
  unfolding BentLight
  bent_light_pos (inl a) = go a.1
    where
      go : Smaller G high l → 0 < l.num
      go (inl c) = omega (arith, c, mul-pos thousand_pos l.pos)
      go (inr c) = S.most_lit l seen c
  bent_light_pos (inr a) = go a.1
    where
      go : Straight G high peak l ⊎ Bent G high peak l → 0 < l.num
      go (inl b) = S.most_lit l seen b.light
      go (inr b) = bends_pos b
