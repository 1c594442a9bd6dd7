-- A few units more or less of a component and of the luminance take only so much room in the scene light.
use mathlib.Core.Path.{◌≡◌, sym, ap, subst, subst₂}
use Prim.Native.Nat.{ℕ, ◌+◌, ◌-◌, ◌*◌, ◌^◌, ◌≤◌, ◌<◌}
use native.Mathlib.Nat.{le_trans, le_of_lt, mul-le-mul_left, mul-le-mul_right, le_of_mul-le-mul_left, le_of_mul-le-mul_right, pow-le-pow_left, one-le-pow}
use native.Mathlib.Nat.{lt_of_not-le, sub-eq-zero_of_le, not-le_of_lt}
use native.Mathlib.Decide.{dec_le}
use native.Mathlib.Omega.{arith}
use Rattle.laws.proofs.PowerLaws.{of_product, base_le}

-- a * b ≤ c * d, to the sixth
pub six : (a b c d : ℕ) → a * b ≤ c * d → a ^ 6 * b ^ 6 ≤ c ^ 6 * d ^ 6
six a b c d h = subst₂ ◌≤◌ (of_product a b 6) (of_product c d 6) (pow-le-pow_left h 6)

pub six_one : (a b c : ℕ) → a * b ≤ c → a ^ 6 * b ^ 6 ≤ c ^ 6
six_one a b c h = subst (λ t. t ≤ c ^ 6) (of_product a b 6) (pow-le-pow_left h 6)

-- little light: its own size settles it
small : (c k z v s e : ℕ) → c ≤ v * k * z → v * s ≤ e → c * s ≤ e * k * z
small c k z v s e h g = omega (arith, mul-le-mul_right s h, mul-le-mul_right (k * z) g)

far : (c k y r t s a : ℕ) → 0 < t → c * r ≤ t * k * y → t * s ≤ r * a → c * s ≤ a * k * y
far c k y r t s a p h g = le_of_mul-le-mul_left {k = t} (omega (arith, mul-le-mul_left c g, mul-le-mul_right a h)) p

on : (c k y z s a e w b : ℕ) → 0 < b → c * s ≤ a * k * y → y * b ≤ w * z → a * w ≤ e * b → c * s ≤ e * k * z
on c k y z s a e w b p h g j = le_of_mul-le-mul_left {k = b} (omega (arith, mul-le-mul_left b h, mul-le-mul_left (a * k) g, mul-le-mul_right (k * z) j)) p

-- a step t that r does not reach: t + u is enough for r + s and for a luminance z at most g below y. v is the slope of scene light a unit, f what
-- the luminance is at least, times the slope, where r is not small
module _ (v u g s : ℕ) where
  abbrev pub RoomHigh : ℕ → ℕ → Type 0
  RoomHigh t f = (g * v + 1 ≤ f) × ((t + s * v) ^ 6 * f ≤ (t + u) ^ 6 * (f - g * v))

  pub add_up : (c k t f r y z : ℕ) → 0 < t → s * v ≤ u → RoomHigh t f → c * r ^ 6 ≤ t ^ 6 * k * y → y ≤ z + g
      → (t ≤ v * r → f ≤ v * y) → c ≤ v ^ 6 * k * z → c * (r + s) ^ 6 ≤ (t + u) ^ 6 * k * z
  add_up c k t f r y z ht hu a h hz hf hc = go (dec_le (v * r) t)
    where
      go : Dec (v * r ≤ t) → c * (r + s) ^ 6 ≤ (t + u) ^ 6 * k * z
      go (yes q) = small c k z (v ^ 6) ((r + s) ^ 6) ((t + u) ^ 6) hc (six_one v (r + s) (t + u) (omega arith))
      go (no q) =
          let e : t ≤ v * r = omega arith in
          let over : t * (r + s) ≤ r * (t + s * v) = omega (arith, mul-le-mul_left s e) in
          let b = f - g * v in
          let rest : f ≡ b + g * v = omega (arith, a.0) in
          let room : y * b ≤ f * z = omega (arith, ap (λ x. y * x) rest, mul-le-mul_left f hz, mul-le-mul_left g (hf e)) in
          on c k y z ((r + s) ^ 6) ((t + s * v) ^ 6) ((t + u) ^ 6) f b (omega (arith, a.0))
          (far c k y (r ^ 6) (t ^ 6) ((r + s) ^ 6) ((t + s * v) ^ 6) (one-le-pow 6 t ht) h (six t (r + s) r (t + s * v) over)) room a.1

low : (c k y r t v : ℕ) → 0 < k * y → t * k * y ≤ c * r → c ≤ v * k * y → t ≤ v * r
low c k y r t v p h g = le_of_mul-le-mul_right {k = k * y} (omega (arith, mul-le-mul_right r g)) p

back : (c k y r t s a : ℕ) → 0 < r → t * k * y ≤ c * r → a * r ≤ t * s → a * k * y ≤ c * s
back c k y r t s a p h g = le_of_mul-le-mul_right {k = r} (omega (arith, mul-le-mul_left (k * y) g, mul-le-mul_right s h)) p

off : (c k y z s a e w b : ℕ) → 0 < w → a * k * y ≤ c * s → z * w ≤ y * b → e * b ≤ a * w → e * k * z ≤ c * s
off c k y z s a e w b p h g j = le_of_mul-le-mul_right {k = w} (omega (arith, mul-le-mul_right w h, mul-le-mul_left (e * k) g, mul-le-mul_right (k * y) j)) p

-- (t - s v) r ≤ t (r - s), the differences being 0 where they would be below
shrink : (t r s v : ℕ) → t ≤ v * r → (t - s * v) * r ≤ t * (r - s)
shrink t r s v h = go (dec_le t (s * v)) (dec_le s r)
  where
    less : (e f : ℕ) → s * v + e ≡ t → s + f ≡ r → e * r ≤ t * f
    less e f p q =
        let k : e ≤ v * f = omega (arith, ap (λ x. v * x) q) in
        subst₂ (λ x y. e * y ≤ x * f) p q (omega (arith, mul-le-mul_left s k))

    go : Dec (t ≤ s * v) → Dec (s ≤ r) → (t - s * v) * r ≤ t * (r - s)
    go (yes p) d = rw (sub-eq-zero_of_le p) (omega arith)
    go (no p) (yes q) = less (t - s * v) (r - s) (omega arith) (omega arith)
    go (no p) (no q) = absurd (p (le_trans h (omega (arith, mul-le-mul_left v (le_of_lt (lt_of_not-le q))))))

pub pos_right : (a b : ℕ) → 0 < a * b → 0 < b
pos_right a b h = lt_of_not-le (λ p. not-le_of_lt h (omega (arith, mul-le-mul_left a p)))

-- a step t that r reaches: t - l is not too much for r - s and for a luminance y + h
module _ (v l h s : ℕ) where
  abbrev pub RoomLow : ℕ → ℕ → Type 0
  RoomLow t f = (1 ≤ f) × ((t - l) ^ 6 * (f + h * v) ≤ (t - s * v) ^ 6 * f)

  pub add_lo : (c k t f r y : ℕ) → 0 < t → 0 < c → RoomLow t f → t ^ 6 * k * y ≤ c * r ^ 6 → (t ≤ v * r → f ≤ v * y) → c ≤ v ^ 6 * k * y
      → (t - l) ^ 6 * k * (y + h) ≤ c * (r - s) ^ 6
  add_lo c k t f r y ht hp a g hf hc =
      let pos : 0 < k * y = pos_right (v ^ 6) (k * y) (omega arith) in
      let e : t ≤ v * r = base_le 6 (omega arith) (subst (λ x. t ^ 6 ≤ x) (sym (of_product v r 6)) (low c k y (r ^ 6) (t ^ 6) (v ^ 6) pos g hc)) in
      let some : 0 < r = pos_right v r (omega arith) in
      off c k y (y + h) ((r - s) ^ 6) ((t - s * v) ^ 6) ((t - l) ^ 6) f (f + h * v) a.0
      (back c k y (r ^ 6) (t ^ 6) ((r - s) ^ 6) ((t - s * v) ^ 6) (one-le-pow 6 r some) g (six (t - s * v) r t (r - s) (shrink t r s v e)))
      (omega (arith, mul-le-mul_left h (hf e))) a.1
