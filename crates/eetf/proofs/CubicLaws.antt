-- The inequalities of the spline over three numbers: a = w − m, b = w − t, and q, by which the bent position lies below t.
use mathlib.Core.Path.{◌≡◌, sym, subst, ap, ◌∙◌}
use Prim.Native.Nat.{ℕ, ◌+◌, ◌*◌, ◌≤◌, ◌<◌}
use native.Mathlib.Nat.{add_comm, le_dest, le_of_lt, lt_of_not-le, mul-pos}
use native.Mathlib.Nat.{mul-le-mul, mul-le-mul_left, mul-le-mul_right, le_of_mul-le-mul_left, lt_of_mul-lt-mul_left}
use native.Mathlib.Decide.{dec_le}
use native.Mathlib.Omega.{arith}

-- 4a³ + 27b³ − 27ab² is (2a − 3b)²(a + 3b); z is how far 2a and 3b are apart, above the knee and below it
identity_above : (a b z : ℕ) → 2 * a + z ≡ 3 * b → 4 * (a * a * a) + 27 * (b * b * b) ≡ 27 * (b * b * a) + z * z * (a + 3 * b)
identity_above a b z e = omega (arith, times (z * a), times (z * b), times (a * a), times (a * b), times (b * b))
  where
    times : (k : ℕ) → (2 * a + z) * k ≡ 3 * b * k
    times k = ap (λ u. u * k) e

identity_below : (a b z : ℕ) → 3 * b + z ≡ 2 * a → 4 * (a * a * a) + 27 * (b * b * b) ≡ 27 * (b * b * a) + z * z * (a + 3 * b)
identity_below a b z e = omega (arith, times (z * a), times (z * b), times (a * a), times (a * b), times (b * b))
  where
    times : (k : ℕ) → (3 * b + z) * k ≡ 2 * a * k
    times k = ap (λ u. u * k) e

-- the cubic touches the diagonal from below
tangent : (a b : ℕ) → 27 * (b * b * a) ≤ 4 * (a * a * a) + 27 * (b * b * b)
tangent a b = go (dec_le (2 * a) (3 * b))
  where
    go : Dec (2 * a ≤ 3 * b) → 27 * (b * b * a) ≤ 4 * (a * a * a) + 27 * (b * b * b)
    go (yes h) = let w = le_dest h in omega (arith, identity_above a b w.0 w.1)
    go (no h) = let w = le_dest (le_of_lt (lt_of_not-le h)) in omega (arith, identity_below a b w.0 w.1)

-- and leaves it by less than one position in the four half positions below the knee
tangent_near : (a b : ℕ) → 3 * b ≤ 2 * a → 2 * a ≤ 3 * b + 4 → 4 ≤ b → 4 * (a * a * a) + 27 * (b * b * b) ≤ 27 * (b * b * (a + 1))
tangent_near a b h k l = go (le_dest h)
  where
    go : (z : ℕ) × (3 * b + z ≡ 2 * a) → 4 * (a * a * a) + 27 * (b * b * b) ≤ 27 * (b * b * (a + 1))
    go w =
        let z = w.0 in
        let small : z ≤ 4 = omega (arith, w.1) in
        omega (arith, identity_below a b z w.1, mul-le-mul_right (a + 3 * b) (mul-le-mul small small), mul-le-mul_left b l)

-- from the knee up, where a is d more, q is d more at most, to the rounding
pub slope : (a b d q u : ℕ) → 2 * (a + d) ≤ 3 * b → 4 * (a * a * a) ≤ 27 * (b * b * q)
    → 27 * (b * b * u) < 4 * ((a + d) * (a + d) * (a + d)) + 27 * (b * b) → u ≤ q + d
slope a b d q u h f g =
    let less : u < q + d + 1 = lt_of_mul-lt-mul_left (27 * (b * b)) {m = u} {n = q + d + 1} (omega (arith, mul-le-mul_left d (mul-le-mul h h))) in
    omega arith

-- what holds of a, b and q from four half positions below the knee up to the peak
pub record Place (a b q : ℕ) : Type 0 where
  pub near : 2 * a ≤ 3 * b + 4
  pub under : 4 * (a * a * a) ≤ 27 * (b * b * (q + 1))
  pub over : 27 * (b * b * q) ≤ 4 * (a * a * a) + 27 * (b * b)
  pub shallow : 2 * q ≤ b + 4
  pub down : a ≤ q + b

-- from the knee up q is 4a³ / (27b²) rounded up
pub half_way : (a b q : ℕ) → 2 * a ≤ 3 * b → 27 * (b * b * q) < 4 * (a * a * a) + 27 * (b * b) → 2 * q ≤ b + 1
half_way a b q h k = omega (arith, less)
  where
    less : 2 * q < b + 2
    less = lt_of_mul-lt-mul_left (27 * (b * b)) {m = 2 * q} {n = b + 2} (omega (arith, mul-le-mul h (mul-le-mul h h)))

pub below_diagonal : (a b q : ℕ) → 1 ≤ b → 4 * (a * a * a) ≤ 27 * (b * b * q) → a ≤ q + b
below_diagonal a b q p k = le_of_mul-le-mul_left {k = 27 * (b * b)} (omega (arith, tangent a b)) (omega (arith, mul-pos p p))

pub place_above : (a b q : ℕ) → 1 ≤ b → 2 * a ≤ 3 * b → 4 * (a * a * a) ≤ 27 * (b * b * q) → 27 * (b * b * q) < 4 * (a * a * a) + 27 * (b * b) → Place a b q
place_above a b q p h lo hi =
    record {
      near = omega arith;
      under = omega arith;
      over = omega arith;
      shallow = omega (arith, half_way a b q h hi);
      down = below_diagonal a b q p lo;
    }

-- below it q is a − b
pub place_below : (a b q : ℕ) → 4 ≤ b → 3 * b ≤ 2 * a → 2 * a ≤ 3 * b + 4 → q + b ≡ a → Place a b q
place_below a b q l h k e =
    record {
      near = k;
      under = omega (arith, tangent_near a b h k l, ap (λ u. b * b * u) e);
      over = omega (arith, tangent a b, ap (λ u. b * b * u) e);
      shallow = omega arith;
      down = omega arith;
    }

-- three positions more of a with two less of b: eight more of q are enough
pub steep : (a c q : ℕ) → 96 ≤ c → Place a (c + 2) q → 4 * ((a + 3) * (a + 3) * (a + 3)) ≤ 27 * (c * c * (q + 8))
steep a c q l p = omega (arith, p.under, mul-le-mul p.near p.near, mul-le-mul_left c p.shallow, mul-le-mul_left c l)

-- two positions less of a with two more of b: seven less of q are enough
flat_at : (e b r : ℕ) → Place (e + 2) b (r + 7) → 27 * ((b + 2) * (b + 2) * r) ≤ 4 * (e * e * e)
flat_at e b r p = omega (arith, p.over, mul-le-mul twice twice, mul-le-mul_left b p.shallow)
  where
    twice : 2 * e ≤ 3 * b
    twice = omega (arith, p.near)

few : (a b r : ℕ) → 1 ≤ b → a < 2 → Place a b (r + 7) → ⊥
few a b r l h p = omega (arith, p.over, mul-le-mul l l, mul-le-mul h (mul-le-mul h h))

pub flat : (a b r e : ℕ) → 1 ≤ b → a ≤ e + 2 → Place a b (r + 7) → 27 * ((b + 2) * (b + 2) * r) ≤ 4 * (e * e * e)
flat a b r e l h p = go (dec_le 2 a)
  where
    go : Dec (2 ≤ a) → 27 * ((b + 2) * (b + 2) * r) ≤ 4 * (e * e * e)
    go (yes k) =
        let w = le_dest k in
        let small : w.0 ≤ e = omega (arith, w.1) in
        let here = flat_at w.0 b r (subst (λ x. Place x b (r + 7)) (sym w.1 ∙ add_comm 2 w.0) p) in
        omega (arith, here, mul-le-mul small (mul-le-mul small small))
    go (no k) = absurd (few a b r l (lt_of_not-le k) p)
