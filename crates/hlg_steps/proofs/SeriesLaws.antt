-- The partial sums of the exponential: they grow with the exponent, and one of them with its last term once more bounds them all once the terms halve.
use mathlib.Core.Path.{sym, subst}
use Prim.Native.Nat.{ℕ, zero, suc, ◌+◌, ◌*◌, ◌^◌, ◌≤◌, ◌<◌}
use native.Mathlib.Nat.{le_refl, le_trans, mul-le-mul, mul-le-mul_left, mul-le-mul_right, le_of_mul-le-mul_right, le-add_right}
use native.Mathlib.Nat.{add-mul, pow-zero, pow-suc, zero-lt-suc, mul-pos, zero-add, suc-add, add_comm}
use native.Mathlib.Omega.{arith}
use Rattle.hlg_steps.specs.Exponential.{sum_num, sum_den}

pub den_pos : (q n : ℕ) → 0 < q → 0 < sum_den q n
unfolding sum_den
den_pos q zero h = zero-lt-suc 0
den_pos q (suc n) h = mul-pos (den_pos q n h) (mul-pos (zero-lt-suc n) h)

-- ---- p / q at most p' / q'
terms_grow : (p q p' q' n : ℕ) → p * q' ≤ p' * q → p ^ n * sum_den q' n ≤ p' ^ n * sum_den q n
unfolding sum_den
terms_grow p q p' q' zero h = rw (pow-zero p, pow-zero p') (le_refl (1 * 1))
terms_grow p q p' q' (suc n) h = rw (pow-suc p n, pow-suc p' n) (omega (arith, mul-le-mul (terms_grow p q p' q' n h) (mul-le-mul_left (suc n) h)))

-- a / b and t / (b k) at most a' / b' and t' / (b' k')
add_terms : (a b a' b' t t' k k' : ℕ) → a * b' ≤ a' * b → t * (b' * k') ≤ t' * (b * k) → (a * k + t) * (b' * k') ≤ (a' * k' + t') * (b * k)
add_terms a b a' b' t t' k k' h g = omega (arith, mul-le-mul_right (k * k') h)

pub sums_grow : (p q p' q' n : ℕ) → p * q' ≤ p' * q → sum_num p q n * sum_den q' n ≤ sum_num p' q' n * sum_den q n
unfolding sum_num sum_den
sums_grow p q p' q' zero h = le_refl (1 * 1)
sums_grow p q p' q' (suc n) h =
    let t : p ^ suc n * (sum_den q' n * (suc n * q')) ≤ p' ^ suc n * (sum_den q n * (suc n * q)) = terms_grow p q p' q' (suc n) h in
    add_terms (sum_num p q n) (sum_den q n) (sum_num p' q' n) (sum_den q' n) (p ^ suc n) (p' ^ suc n) (suc n * q) (suc n * q') (sums_grow p q p' q' n h) t

-- ---- the tail: once 2 p / q is at most m + 1, each term is at most half of the one before
module _ (p q x z : ℕ) where
  -- x / z is at least the sum up to n and its last term once more
  unfoldable pub Covers : ℕ → Type 0
  Covers n = (sum_num p q n + p ^ n) * z ≤ x * sum_den q n

  -- x / z is at least the sum up to n
  unfoldable Over : ℕ → Type 0
  Over n = sum_num p q n * z ≤ x * sum_den q n

  halved : (n : ℕ) → 2 * p ≤ suc n * q → sum_num p q (suc n) + p ^ suc n ≤ (sum_num p q n + p ^ n) * (suc n * q)
  unfolding sum_num
  halved n h = rw (pow-suc p n, add-mul (sum_num p q n) (p ^ n) (suc n * q)) (omega (arith, mul-le-mul_left (p ^ n) h))

  covers_next : (n : ℕ) → 2 * p ≤ suc n * q → Covers n → Covers (suc n)
  unfolding Covers sum_den
  covers_next n h t = le_trans (mul-le-mul_right z (halved n h)) (omega (arith, mul-le-mul_right (suc n * q) t))

  covers_later : (m i : ℕ) → 2 * p ≤ suc m * q → Covers m → Covers (i + m)
  covers_later m zero h t = subst Covers (sym (zero-add m)) t
  covers_later m (suc i) h t =
      subst Covers (sym (suc-add i m)) (covers_next (i + m) (le_trans h (mul-le-mul_right q (omega arith))) (covers_later m i h t))

  covers_over : (n : ℕ) → Covers n → Over n
  unfolding Covers Over
  covers_over n t = le_trans (mul-le-mul_right z (le-add_right (sum_num p q n) (p ^ n))) t

  over_before : (n : ℕ) → 0 < q → Over (suc n) → Over n
  unfolding Over sum_num sum_den
  over_before n hq t =
      le_of_mul-le-mul_right {k = suc n * q}
      (le_trans (omega arith) (le_trans (mul-le-mul_right z (le-add_right (sum_num p q n * (suc n * q)) (p ^ suc n))) (le_trans t (omega arith))))
      (mul-pos (zero-lt-suc n) hq)

  over_earlier : (i n : ℕ) → 0 < q → Over (i + n) → Over n
  over_earlier zero n hq t = subst Over (zero-add n) t
  over_earlier (suc i) n hq t = over_earlier i n hq (over_before (i + n) hq (subst Over (suc-add i n) t))

  pub every_sum : (m : ℕ) → 0 < q → 2 * p ≤ suc m * q → Covers m → (n : ℕ) → sum_num p q n * z ≤ x * sum_den q n
  unfolding Over
  every_sum m hq h t n = over_earlier m n hq (subst Over (add_comm n m) (covers_over (n + m) (covers_later m n h t)))
