-- A guess of a sixth root whose power is near enough, and the step of Newton's from it that encloses the root; by polynomials, with nothing about words.
use mathlib.Core.Path.{◌≡◌, ap, subst, subst₂}
use mathlib.Core.List.{[], ◌∷◌}
use Prim.Native.Nat.{ℕ, suc, ◌+◌, ◌*◌, ◌^◌, ◌≤◌, ◌<◌}
use native.Mathlib.Nat.{le_trans, le_of_lt, le_dest, lt_of_not-le, mul-le-mul, mul-le-mul_right, le_of_mul-le-mul_left}
use native.Mathlib.Decide.{dec_le}
use native.Mathlib.Omega.{arith}
use lib.Dec.{lit<, lit≤}
use Rattle.laws.proofs.Polynomial.{#◌, ◌⊕◌, ◌⊗◌, ◌↑◌, nxt, ◌≼◌, ring}
use Rattle.laws.proofs.Certificate.{◌⊑◌by◌, ◌⊢◌≼◌, cert}
use Rattle.hlg.specs.Root.{fives}

-- 2⁷⁹ / 5¹¹ and 2³⁸ 5¹¹ / 6, rounded down
abbrev pub whole : ℕ
whole = 12379400392853802

abbrev pub sixth : ℕ
sixth = 2236962133333333333

-- how far from whole the power of a guess may lie: with more than about 1.19 × 10¹² the step's gain no longer covers it
abbrev pub spread : ℕ
spread = 1000000000000

-- what the step gains, against 7 × 2⁷⁹, by g + 2 in place of g; and less 4 × 5¹¹
abbrev pub gain : ℕ
gain = 5629499534213120

abbrev pub net : ℕ
net = 5629499338900620

-- ---- four products, each rounded up: w w, s n, s s and f x
abbrev pub Raised : ℕ → ℕ → ℕ → Type 0
Raised u v r = (u * v ≤ 2 ^ 64 * r) × (2 ^ 64 * r ≤ u * v + 2 ^ 64)

pub power_above : (w n s x f q : ℕ) → w * w ≤ 2 ^ 64 * s → s * n ≤ 2 ^ 64 * x → s * s ≤ 2 ^ 64 * f → f * x ≤ 2 ^ 64 * q → w ^ 6 * n ≤ 2 ^ 384 * q
power_above w n s x f q hs hx hf hq =
    cert 6
    (λ w n s x f q.
    (w ⊗ w ⊑ # (2 ^ 64) ⊗ s by (w ↑ 4 ⊕ # (2 ^ 64) ⊗ s ⊗ w ↑ 2 ⊕ # (2 ^ 128) ⊗ s ↑ 2) ⊗ n)
    ∷ (s ⊗ n ⊑ # (2 ^ 64) ⊗ x by # (2 ^ 192) ⊗ s ↑ 2)
    ∷ (s ⊗ s ⊑ # (2 ^ 64) ⊗ f by # (2 ^ 256) ⊗ x)
    ∷ (f ⊗ x ⊑ # (2 ^ 64) ⊗ q by # (2 ^ 320))
    ∷ [] ⊢ w ↑ 6 ⊗ n ≼ # (2 ^ 384) ⊗ q)
    tt w n s x f q hs hx hf hq

-- where three powers q are at most s, one unit of s counts for at most one of q
pub unit_small : (n s x f q : ℕ) → 0 < s → 3 * q ≤ s → s * n ≤ 2 ^ 64 * x → s * s ≤ 2 ^ 64 * f → f * x ≤ 2 ^ 64 * q → 3 * (s * s * n) ≤ 2 ^ 192
unit_small n s x f q pos h hx hf hq =
    le_of_mul-le-mul_left {k = s}
    (cert 5
    (λ n s x f q.
    (s ⊗ n ⊑ # (2 ^ 64) ⊗ x by # 3 ⊗ s ↑ 2)
    ∷ (s ⊗ s ⊑ # (2 ^ 64) ⊗ f by # (3 * 2 ^ 64) ⊗ x)
    ∷ (f ⊗ x ⊑ # (2 ^ 64) ⊗ q by # (3 * 2 ^ 128))
    ∷ (# 3 ⊗ q ⊑ s by # (2 ^ 192))
    ∷ [] ⊢ s ⊗ (# 3 ⊗ (s ⊗ s ⊗ n)) ≼ s ⊗ # (2 ^ 192))
    tt n s x f q hx hf hq h)
    pos

-- the power is at most 4 units above the exact one, with s one more than r
pub power_below : (w n r x f q : ℕ) → 2 ^ 64 * r ≤ w * w → 2 ^ 64 * x ≤ suc r * n + 2 ^ 64 → 2 ^ 64 * f ≤ suc r * suc r + 2 ^ 64 → 2 ^ 64 * q ≤ f * x + 2 ^ 64
    → suc r * suc r + 2 ^ 64 ≤ 2 ^ 128 → suc r * n ≤ 2 ^ 128 → 3 * (suc r * suc r * n) ≤ 2 ^ 192 → 2 ^ 384 * q ≤ w ^ 6 * n + 4 * 2 ^ 384
power_below w n r x f q hs hx hf hq hr hn hu =
    cert 6
    (λ w n r x f q.
    (# (2 ^ 64) ⊗ r ⊑ w ⊗ w by (w ↑ 4 ⊕ # (2 ^ 64) ⊗ r ⊗ w ↑ 2 ⊕ # (2 ^ 128) ⊗ r ↑ 2) ⊗ n)
    ∷ (# (2 ^ 64) ⊗ x ⊑ nxt r ⊗ n ⊕ # (2 ^ 64) by # (2 ^ 192) ⊗ nxt r ↑ 2 ⊕ # (2 ^ 256))
    ∷ (# (2 ^ 64) ⊗ f ⊑ nxt r ⊗ nxt r ⊕ # (2 ^ 64) by # (2 ^ 256) ⊗ x)
    ∷ (# (2 ^ 64) ⊗ q ⊑ f ⊗ x ⊕ # (2 ^ 64) by # (2 ^ 320))
    ∷ (nxt r ⊗ nxt r ⊕ # (2 ^ 64) ⊑ # (2 ^ 128) by # (2 ^ 256))
    ∷ (nxt r ⊗ n ⊑ # (2 ^ 128) by # (2 ^ 256))
    ∷ (# 3 ⊗ (nxt r ⊗ nxt r ⊗ n) ⊑ # (2 ^ 192) by # (2 ^ 192))
    ∷ [] ⊢ # (2 ^ 384) ⊗ q ≼ w ↑ 6 ⊗ n ⊕ # (4 * 2 ^ 384))
    tt w n r x f q hs hx hf hq hr hn hu

-- ---- Newton's step never passes the root: the mean of seven numbers, six of them v and one p
pub newton : (v p m : ℕ) → p + 6 * v ≤ 7 * m → p * v ^ 6 ≤ m ^ 7
newton v p m h = go (dec_le v m)
  where
    near : (v d p : ℕ) → p ≤ v + 7 * d → p * v ^ 6 ≤ (v + d) ^ 7
    near v d p l = le_trans (mul-le-mul_right (v ^ 6) l) (ring 2 (λ v d. (v ⊕ # 7 ⊗ d) ⊗ v ↑ 6 ≼ (v ⊕ d) ↑ 7) tt v d)

    far : (x d p : ℕ) → p ≤ x → p * (x + 7 * d) ^ 6 ≤ (x + 6 * d) ^ 7
    far x d p l = le_trans (mul-le-mul_right ((x + 7 * d) ^ 6) l) (ring 2 (λ x d. x ⊗ (x ⊕ # 7 ⊗ d) ↑ 6 ≼ (x ⊕ # 6 ⊗ d) ↑ 7) tt x d)

    go : Dec (v ≤ m) → p * v ^ 6 ≤ m ^ 7
    go (yes l) =
        let w = le_dest l in
        subst (λ (x : ℕ). p * v ^ 6 ≤ x ^ 7) w.1 (near v w.0 p (omega (arith, w.1)))
    go (no l) =
        let w = le_dest (le_of_lt (lt_of_not-le l)) in
        let room : p + 6 * w.0 ≤ m = omega (arith, w.1) in
        let u = le_dest room in
        let em : p + u.0 + 6 * w.0 ≡ m = omega (arith, u.1) in
        let ev : p + u.0 + 7 * w.0 ≡ v = omega (arith, u.1, w.1) in
        subst₂ (λ (x y : ℕ). p * x ^ 6 ≤ y ^ 7) ev em (far (p + u.0) w.0 p (omega arith))

-- the step from w, rounded down to e, f and g in turn, where p and the power q make 7 whole
pub step_below : (w q p e f g a : ℕ) → p + q ≤ 7 * whole → e * 2 ^ 64 ≤ w * sixth → f * 2 ^ 64 ≤ e * (p * 128) → g * a ≤ f
    → w * (fives * q) + 6 * (g * (a * 16) * 2 ^ 79) ≤ 7 * (w * 2 ^ 79)
step_below w q p e f g a hp he hf hg =
    le_of_mul-le-mul_left {k = 2 ^ 49}
    (cert 7
    (λ w q p e f g a.
    (p ⊕ q ⊑ # (7 * whole) by # (2 ^ 49 * fives) ⊗ w)
    ∷ (e ⊗ # (2 ^ 64) ⊑ w ⊗ # sixth by # 12288 ⊗ p)
    ∷ (f ⊗ # (2 ^ 64) ⊑ e ⊗ (p ⊗ # 128) by # (96 * 2 ^ 64))
    ∷ (g ⊗ a ⊑ f by # (96 * 2 ^ 128))
    ∷ [] ⊢ # (2 ^ 49) ⊗ (w ⊗ (# fives ⊗ q) ⊕ # 6 ⊗ (g ⊗ (a ⊗ # 16) ⊗ # (2 ^ 79))) ≼ # (2 ^ 49) ⊗ (# 7 ⊗ (w ⊗ # (2 ^ 79))))
    tt w q p e f g a hp he hf hg)
    (lit< tt)

-- and with g + 2 it is past 7 × 2⁷⁹ by the gain
pub step_above : (w q p e f g a : ℕ) → 7 * whole ≤ p + q → w * sixth < (e + 1) * 2 ^ 64 → e * (p * 128) < (f + 1) * 2 ^ 64 → f < (g + 1) * a
    → w ≤ 2 ^ 64 → p ≤ 2 ^ 57 → 2 ^ 31 ≤ a → (7 * 2 ^ 79 + gain) * w ≤ 6 * (2 ^ 79 * ((g + 2) * (a * 16))) + w * (fives * q)
step_above w q p e f g a hp he hf hg lw lp la =
    le_of_mul-le-mul_left {k = 2 ^ 49}
    (cert 7
    (λ w q p e f g a.
    (# (7 * whole) ⊑ p ⊕ q by # (2 ^ 49 * fives) ⊗ w)
    ∷ (nxt (w ⊗ # sixth) ⊑ (e ⊕ # 1) ⊗ # (2 ^ 64) by # 12288 ⊗ p)
    ∷ (nxt (e ⊗ (p ⊗ # 128)) ⊑ (f ⊕ # 1) ⊗ # (2 ^ 64) by # (96 * 2 ^ 64))
    ∷ (nxt f ⊑ (g ⊕ # 1) ⊗ a by # (96 * 2 ^ 128))
    ∷ (w ⊑ # (2 ^ 64) by # (2 ^ 49 * (gain + 7 * fives) + 12288 * 2 ^ 57))
    ∷ (p ⊑ # (2 ^ 57) by # 12288 ⊗ (w ⊕ # (2 ^ 64)))
    ∷ (# (2 ^ 31) ⊑ a by # (96 * 2 ^ 128))
    ∷ [] ⊢ # (2 ^ 49) ⊗ (# (7 * 2 ^ 79 + gain) ⊗ w) ≼ # (2 ^ 49) ⊗ (# 6 ⊗ (# (2 ^ 79) ⊗ ((g ⊕ # 2) ⊗ (a ⊗ # 16))) ⊕ w ⊗ (# fives ⊗ q)))
    tt w q p e f g a hp he hf hg lw lp la)
    (lit< tt)

-- ---- six numbers u and one p near 7 m in all have a product of at least 6⁶ m⁷: u is above 6 m by t, or below it
mean_above : (m t d p : ℕ) → t + p ≡ m + d → t * t ≤ m * d → 6 ^ 6 * m ^ 7 ≤ (6 * m + t) ^ 6 * p
mean_above m t d p e h =
    let square : m * m ≤ (m + t) * p = omega (arith, ap (λ (x : ℕ). (m + t) * x) e) in
    cert 3 (λ m t p. (m ⊗ m ⊑ (m ⊕ t) ⊗ p by # (6 ^ 6) ⊗ m ↑ 5) ∷ [] ⊢ # (6 ^ 6) ⊗ m ↑ 7 ≼ (# 6 ⊗ m ⊕ t) ↑ 6 ⊗ p) tt m t p square

mean_below : (t r d : ℕ) → t * t ≤ r * d → 6 ^ 6 * (t + r) ^ 7 ≤ (5 * t + 6 * r) ^ 6 * (r + 2 * t + d)
mean_below t r d h =
    cert 3
    (λ t r d. (t ⊗ t ⊑ r ⊗ d by # (6 ^ 6) ⊗ (t ⊕ r) ↑ 5) ∷ [] ⊢ # (6 ^ 6) ⊗ (t ⊕ r) ↑ 7 ≼ (# 5 ⊗ t ⊕ # 6 ⊗ r) ↑ 6 ⊗ (r ⊕ # 2 ⊗ t ⊕ d))
    tt t r d h

-- the gain and spread + 5 times 5¹¹ are at most this
abbrev most : ℕ
most = 48840000000000000000

-- so it is for a power of c + 4 within the spread of whole
pub mean_near : (u c : ℕ) → u + fives * c ≡ 7 * 2 ^ 79 + net → whole ≤ c + (spread + 4) → c ≤ whole + spread
    → 6 ^ 6 * (2 ^ 79) ^ 7 ≤ u ^ 6 * (fives * c)
mean_near u c e low high = go (dec_le (6 * 2 ^ 79) u)
  where
    go : Dec (6 * 2 ^ 79 ≤ u) → 6 ^ 6 * (2 ^ 79) ^ 7 ≤ u ^ 6 * (fives * c)
    go (yes l) =
        let t = le_dest l in
        let near : t.0 ≤ most = omega (arith, t.1) in
        let both : t.0 + fives * c ≡ 2 ^ 79 + net = omega (arith, t.1) in
        subst (λ (x : ℕ). 6 ^ 6 * (2 ^ 79) ^ 7 ≤ x ^ 6 * (fives * c)) t.1
        (mean_above (2 ^ 79) t.0 net (fives * c) both (le_trans (mul-le-mul near near) (lit≤ tt)))
    go (no l) =
        let t = le_dest (le_of_lt (lt_of_not-le l)) in
        let near : t.0 ≤ most = omega (arith, t.1) in
        let r = le_dest (le_trans near (lit≤ {n = 2 ^ 79} tt)) in
        let long : 604414069807314587353088 ≤ r.0 = omega (arith, r.1) in
        let six : 5 * t.0 + 6 * r.0 ≡ u = omega (arith, t.1, r.1) in
        let rest : r.0 + 2 * t.0 + net ≡ fives * c = omega (arith, t.1, r.1) in
        let small : t.0 * t.0 ≤ r.0 * net = le_trans (mul-le-mul near near) (le_trans (lit≤ tt) (mul-le-mul_right net long)) in
        subst (λ (x : ℕ). 6 ^ 6 * x ^ 7 ≤ u ^ 6 * (fives * c)) r.1
        (subst₂ (λ (x p : ℕ). 6 ^ 6 * (t.0 + r.0) ^ 7 ≤ x ^ 6 * p) six rest (mean_below t.0 r.0 net small))
