-- A guess that passes its test and the step from it enclose a luminance's root by g and g + 2: the bounds of `NewtonLaws` put together, and scaled back.
use mathlib.Core.Path.{◌≡◌, sym, ◌∙◌, ap, subst}
use mathlib.Core.List.{[], ◌∷◌}
use Prim.Native.Nat.{ℕ, zero, suc, ◌+◌, ◌*◌, ◌^◌, ◌≤◌, ◌<◌}
use native.Mathlib.Nat.{le_refl, zero-lt-suc, le_trans, le_of_eq, le_of_lt, le_dest, add-le-add, mul-pos}
use native.Mathlib.Nat.{mul-le-mul, mul-le-mul_left, mul-le-mul_right, pow-le-pow_left, le_of_mul-le-mul_left, le_of_mul-le-mul_right}
use native.Mathlib.Omega.{arith}
use lib.Dec.{lit<, lit≤}
use Rattle.laws.proofs.Polynomial.{#◌, ◌⊕◌, ◌⊗◌, ◌↑◌, ◌≐◌, ring}
use Rattle.laws.proofs.Certificate.{◌⊑◌by◌, ◌⊢◌≼◌, cert}
use Rattle.hlg.specs.Root.{fives, LowRoot, HighRoot, IsRoot}
use Rattle.hlg.proofs.NewtonLaws.{whole, sixth, spread, gain, net, Raised}
use Rattle.hlg.proofs.NewtonLaws.{power_above, unit_small, power_below, newton, step_below, step_above, mean_near}

-- ---- v⁶ n for a root g and a luminance y, each scaled: a b is 2⁴²
scaled : (g y a b : ℕ) → a * b ≡ 2 ^ 42 → (g * a) ^ 6 * (y * b ^ 6) ≡ g ^ 6 * y * 2 ^ 252
scaled g y a b e =
    ring 4 (λ g y a b. (g ⊗ a) ↑ 6 ⊗ (y ⊗ b ↑ 6) ≐ g ↑ 6 ⊗ y ⊗ (a ⊗ b) ↑ 6) tt g y a b ∙ ap (λ (x : ℕ). g ^ 6 * y * x ^ 6) e

moved : (x y : ℕ) → x * fives * y * 2 ^ 252 ≡ fives * (x * y * 2 ^ 252)
moved x y = ring 2 (λ x y. x ⊗ # fives ⊗ y ⊗ # (2 ^ 252) ≐ # fives ⊗ (x ⊗ y ⊗ # (2 ^ 252))) tt x y

low_scaled : (g y a b : ℕ) → a * b ≡ 2 ^ 42 → fives * ((g * a) ^ 6 * (y * b ^ 6)) ≤ 2 ^ 463 → LowRoot g y
unfolding LowRoot
low_scaled g y a b e h =
    let l : fives * (g ^ 6 * y * 2 ^ 252) ≤ 2 ^ 463 = subst (λ (x : ℕ). fives * x ≤ 2 ^ 463) (scaled g y a b e) h in
    le_of_mul-le-mul_right {k = 2 ^ 252} (le_trans (le_of_eq (moved (g ^ 6) y)) l) (lit< tt)

high_scaled : (g y a b : ℕ) → a * b ≡ 2 ^ 42 → 2 ^ 463 ≤ fives * ((g * a) ^ 6 * (y * b ^ 6)) → HighRoot g y
unfolding HighRoot
high_scaled g y a b e h =
    let l : 2 ^ 463 ≤ fives * (g ^ 6 * y * 2 ^ 252) = subst (λ (x : ℕ). 2 ^ 463 ≤ fives * x) (scaled g y a b e) h in
    le_of_mul-le-mul_right {k = 2 ^ 252} (le_trans l (le_of_eq (sym (moved (g ^ 6) y)))) (lit< tt)

-- ---- v is not past the root where the step to it is not past 7 × 2⁷⁹
low_power : (w n q v : ℕ) → 0 < w → 0 < q → w ^ 6 * n ≤ 2 ^ 384 * q → w * (fives * q) + 6 * (v * 2 ^ 79) ≤ 7 * (w * 2 ^ 79) → fives * (v ^ 6 * n) ≤ 2 ^ 463
low_power w n q v pw pq h l =
    le_of_mul-le-mul_left {k = w * q * 2 ^ 474}
    (cert 4
    (λ w n q v.
    (w ⊗ (# fives ⊗ q) ⊗ (v ⊗ # (2 ^ 79)) ↑ 6 ⊑ (w ⊗ # (2 ^ 79)) ↑ 7 by n)
    ∷ (w ↑ 6 ⊗ n ⊑ # (2 ^ 384) ⊗ q by # (2 ^ 553) ⊗ w)
    ∷ [] ⊢ w ⊗ q ⊗ # (2 ^ 474) ⊗ (# fives ⊗ (v ↑ 6 ⊗ n)) ≼ w ⊗ q ⊗ # (2 ^ 474) ⊗ # (2 ^ 463))
    tt w n q v (newton (v * 2 ^ 79) (w * (fives * q)) (w * 2 ^ 79) l) h)
    (mul-pos (mul-pos pw pq) (lit< tt))

-- and is past it where w u is at most six steps to v, with u and the power as in `mean_near`
high_power : (w n c u v : ℕ) → 2 ^ 384 * c ≤ w ^ 6 * n → u * w ≤ 6 * (2 ^ 79 * v) → 6 ^ 6 * (2 ^ 79) ^ 7 ≤ u ^ 6 * (fives * c) → 2 ^ 463 ≤ fives * (v ^ 6 * n)
high_power w n c u v h l m =
    le_of_mul-le-mul_left {k = 6 ^ 6 * 2 ^ 474}
    (cert 5
    (λ w n c u v.
    (# (2 ^ 384) ⊗ c ⊑ w ↑ 6 ⊗ n by # fives ⊗ u ↑ 6)
    ∷ ((u ⊗ w) ↑ 6 ⊑ (# 6 ⊗ (# (2 ^ 79) ⊗ v)) ↑ 6 by # fives ⊗ n)
    ∷ (# (6 ^ 6 * (2 ^ 79) ^ 7) ⊑ u ↑ 6 ⊗ (# fives ⊗ c) by # (2 ^ 384))
    ∷ [] ⊢ # (6 ^ 6 * 2 ^ 474) ⊗ # (2 ^ 463) ≼ # (6 ^ 6 * 2 ^ 474) ⊗ (# fives ⊗ (v ↑ 6 ⊗ n)))
    tt w n c u v h (pow-le-pow_left l 6) m)
    (lit< tt)

-- ---- a guess w whose power q is within the spread of whole
pub record Passed (n w s x f q : ℕ) : Type 0 where
  pub square : Raised w w s
  pub weighed : Raised s n x
  pub fourth : Raised s s f
  pub power : Raised f x q
  pub least : 2 ^ 62 ≤ w
  pub guess_word : w < 2 ^ 64
  pub square_word : s < 2 ^ 64
  pub input_word : n < 2 ^ 64
  pub above : whole ≤ q + spread
  pub below : q ≤ whole + spread

thrice : (q s : ℕ) → q ≤ whole + spread → 2 ^ 60 ≤ s → 3 * q ≤ s
thrice q s h l = omega arith

some : (q : ℕ) → whole ≤ q + spread → 0 < q
some q h = omega arith

last_word : (s : ℕ) → s < 2 ^ 64 → s ≤ 18446744073709551615
last_word s h = omega arith

one_less : (r p : ℕ) → 2 ^ 64 * suc r ≤ p + 2 ^ 64 → 2 ^ 64 * r ≤ p
one_less r p h = omega arith

exact_above : (n w s x f q : ℕ) → Passed n w s x f q → 2 ^ 384 * q ≤ w ^ 6 * n + 4 * 2 ^ 384
exact_above n w s x f q t = go s t (le_of_mul-le-mul_left {k = 2 ^ 64} (le_trans (mul-le-mul t.least t.least) t.square.0) (lit< tt))
  where
    go : (s : ℕ) → Passed n w s x f q → 2 ^ 60 ≤ s → 2 ^ 384 * q ≤ w ^ 6 * n + 4 * 2 ^ 384
    go zero t l = absurd (omega arith)
    go (suc r) t l =
        let word : suc r ≤ 18446744073709551615 = last_word (suc r) t.square_word in
        power_below w n r x f q (one_less r (w * w) t.square.1) t.weighed.1 t.fourth.1 t.power.1
        (le_trans (add-le-add (mul-le-mul word word) (le_refl (2 ^ 64))) (lit≤ tt))
        (mul-le-mul (le_of_lt t.square_word) (le_of_lt t.input_word))
        (unit_small n (suc r) x f q (zero-lt-suc r) (thrice q (suc r) t.below l) t.weighed.0 t.fourth.0 t.power.0)

-- ---- the step from it, three times rounded down
pub record Stepped (w q p e h g a : ℕ) : Type 0 where
  pub rest : p + q ≡ 7 * whole
  pub first : (e * 2 ^ 64 ≤ w * sixth) × (w * sixth < (e + 1) * 2 ^ 64)
  pub second : (h * 2 ^ 64 ≤ e * (p * 128)) × (e * (p * 128) < (h + 1) * 2 ^ 64)
  pub last : (g * a ≤ h) × (h < (g + 1) * a)
  pub scale : 2 ^ 31 ≤ a

rest_small : (p q : ℕ) → p + q ≡ 7 * whole → whole ≤ q + spread → p ≤ 2 ^ 57
rest_small p q e h = omega arith

root_small : (g h e : ℕ) → e ≤ sixth → h ≤ e → g * 2 ^ 31 ≤ h → g + 2 ≤ 2 ^ 30
root_small g h e l m k = omega arith

-- with c + 4 for a power q, and u for what is left of 7 × 2⁷⁹ and the gain
module _ (q c u : ℕ) (ec : 4 + c ≡ q) (eu : fives * c + u ≡ 7 * 2 ^ 79 + net) where
  six_steps : (w v : ℕ) → (7 * 2 ^ 79 + gain) * w ≤ 6 * (2 ^ 79 * v) + w * (fives * q) → u * w ≤ 6 * (2 ^ 79 * v)
  six_steps w v h =
      let both : u + fives * q ≡ 7 * 2 ^ 79 + gain = omega arith in
      omega (arith, ap (λ (i : ℕ). i * w) both)

  mean : whole ≤ q + spread → q ≤ whole + spread → 6 ^ 6 * (2 ^ 79) ^ 7 ≤ u ^ 6 * (fives * c)
  mean h l = mean_near u c (omega arith) (omega arith) (omega arith)

  exact : (i : ℕ) → 2 ^ 384 * q ≤ i + 4 * 2 ^ 384 → 2 ^ 384 * c ≤ i
  exact i h =
      cert 2 (λ c i. (# (2 ^ 384) ⊗ (# 4 ⊕ c) ⊑ i ⊕ # (4 * 2 ^ 384) by # 1) ∷ [] ⊢ # (2 ^ 384) ⊗ c ≼ i) tt c i
      (subst (λ (j : ℕ). 2 ^ 384 * j ≤ i + 4 * 2 ^ 384) (sym ec) h)

-- four and a rest make the power, and its part of 7 × 2⁷⁹ leaves a rest
four : (q : ℕ) → whole ≤ q + spread → 4 ≤ q
four q h = omega arith

part : (q c : ℕ) → 4 + c ≡ q → q ≤ whole + spread → fives * c ≤ 7 * 2 ^ 79 + net
part q c e h = omega arith

module _ (y n b w s x f q p e h g a : ℕ) (passed : Passed n w s x f q) (stepped : Stepped w q p e h g a) (whole_scale : a * 16 * b ≡ 2 ^ 42)
    (input : n ≡ y * b ^ 6) where
  range : g + 2 ≤ 2 ^ 30
  range =
      let word : p * 128 ≤ 2 ^ 64 = mul-le-mul_right 128 (rest_small p q stepped.rest passed.above) in
      let guess : w * sixth ≤ 2 ^ 64 * sixth = mul-le-mul_right sixth (le_of_lt passed.guess_word) in
      let e_most : e ≤ sixth = le_of_mul-le-mul_right {k = 2 ^ 64} (le_trans stepped.first.0 guess) (lit< tt) in
      let h_most : h ≤ e = le_of_mul-le-mul_right {k = 2 ^ 64} (le_trans stepped.second.0 (mul-le-mul_left e word)) (lit< tt) in
      root_small g h e e_most h_most (le_trans (mul-le-mul_left g stepped.scale) stepped.last.0)

  low : LowRoot g y
  low =
      let t = passed in
      let above = power_above w n s x f q t.square.0 t.weighed.0 t.fourth.0 t.power.0 in
      let step = step_below w q p e h g a (le_of_eq stepped.rest) stepped.first.0 stepped.second.0 stepped.last.0 in
      low_scaled g y (a * 16) b whole_scale
      (subst (λ (i : ℕ). fives * ((g * (a * 16)) ^ 6 * i) ≤ 2 ^ 463) input
      (low_power w n q (g * (a * 16)) (le_trans (lit≤ tt) t.least) (some q t.above) above step))

  high : HighRoot (g + 2) y
  high =
      let t = passed in
      let c = le_dest (four q t.above) in
      let u = le_dest (part q c.0 c.1 t.below) in
      let step =
      step_above w q p e h g a (le_of_eq (sym stepped.rest)) stepped.first.1 stepped.second.1 stepped.last.1 (le_of_lt t.guess_word)
      (rest_small p q stepped.rest t.above) stepped.scale in
      let v = (g + 2) * (a * 16) in
      high_scaled (g + 2) y (a * 16) b whole_scale
      (subst (λ (i : ℕ). 2 ^ 463 ≤ fives * (v ^ 6 * i)) input
      (high_power w n c.0 u.0 v
      (exact q c.0 u.0 c.1 u.1 (w ^ 6 * n) (exact_above n w s x f q t))
      (six_steps q c.0 u.0 c.1 u.1 w v step)
      (mean q c.0 u.0 c.1 u.1 t.above t.below)))

  pub enclosed : IsRoot g y
  enclosed = record { range = range; low = λ _. low; high = λ _. high }
