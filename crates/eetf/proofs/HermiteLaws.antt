-- Document 002's Hermite spline is the scope's short form at all X and all J below H, and the engine's spline is its whole part.
use mathlib.Core.Path.{◌≡◌, subst}
use mathlib.Core.Logic.{◌↔◌}
use Prim.Native.Nat.{ℕ, ◌+◌, ◌-◌, ◌*◌, ◌^◌, ◌≤◌, ◌<◌}
use native.Mathlib.Nat.{mul-pos, le_dest, le_of_lt, lt_of_mul-lt-mul_left, mul-lt-mul_of_pos_left}
use native.Mathlib.Omega.{arith}
use Rattle.laws.proofs.Polynomial.{E, #◌, ◌⊕◌, ◌⊗◌, ◌≐◌, Quoted, ring}
use Rattle.laws.proofs.PowerLaws.{powers}
use Rattle.eetf.specs.Curve.{spline}
use Rattle.eetf.specs.Hermite.{Signed, number, ◌∕◌, ◌⊞◌, ◌⊟◌, ◌⊠◌, ◌², ◌³, ◌≈◌, ◌≼◌, ◌≺◌, IsFloor, KS, T, P, hermite, short}
use Rattle.eetf.proofs.FloorLaws.{FloorOfDifference}
use Rattle.eetf.proofs.SignedLaws.{≈_refl, ≈_sym, ≈_trans, ⊠_cong, ⊞_cong, ⊟_cong, ⊘_cong, ≼-≈, ≈-≺}
use Rattle.eetf.proofs.SplineLaws.{spline_floor}

abbrev signed : ℕ → ℕ → ℕ → Signed
signed p n d = record { plus = p; minus = n; den = d }

-- ---- fractions over one denominator
add_same : (p n q m d : ℕ) → 0 < d → signed p n d ⊞ signed q m d ≈ signed (p + q) (n + m) d
add_same p n q m d h = record { cross = omega arith; low = mul-pos h h; high = h }

sub_same : (p n q m d : ℕ) → 0 < d → signed p n d ⊟ signed q m d ≈ signed (p + m) (n + q) d
sub_same p n q m d h = record { cross = omega arith; low = mul-pos h h; high = h }

scale : (k p n d : ℕ) → 0 < d → number k ⊠ signed p n d ≈ signed (k * p) (k * n) d
scale k p n d h = record { cross = omega arith; low = mul-pos (omega arith) h; high = h }

-- ---- the square and the cube of τ = (p − n) / d over d³, and the three polynomials of P
abbrev cube⁺ : ℕ → ℕ → ℕ
cube⁺ p n = p * p * p + 3 * (p * n * n)

abbrev cube⁻ : ℕ → ℕ → ℕ
cube⁻ p n = 3 * (p * p * n) + n * n * n

abbrev square⁺ : ℕ → ℕ → ℕ → ℕ
square⁺ p n d = d * (p * p + n * n)

abbrev square⁻ : ℕ → ℕ → ℕ → ℕ
square⁻ p n d = d * (2 * (p * n))

module _ (τ : Signed) (p n d : ℕ) (h : 0 < d) (g : τ ≈ signed p n d) where
  abbrev e : ℕ
  e = d * d * d

  e_pos : 0 < e
  e_pos = mul-pos (mul-pos h h) h

  cube : τ ³ ≈ signed (cube⁺ p n) (cube⁻ p n) e
  cube = ≈_trans (⊠_cong (⊠_cong g g) g) (record { cross = omega arith; low = e_pos; high = e_pos })

  square : τ ² ≈ signed (square⁺ p n d) (square⁻ p n d) e
  square = ≈_trans (⊠_cong g g) (record { cross = omega arith; low = mul-pos h h; high = e_pos })

  itself : τ ≈ signed (d * d * p) (d * d * n) e
  itself = ≈_trans g (record { cross = omega arith; low = h; high = e_pos })

  unit : number 1 ≈ signed e 0 e
  unit = record { cross = omega arith; low = omega arith; high = e_pos }

  times : (k a b : ℕ) {r : Signed} → r ≈ signed a b e → number k ⊠ r ≈ signed (k * a) (k * b) e
  times k a b g = ≈_trans (⊠_cong (≈_refl (number k) (omega arith)) g) (scale k a b e e_pos)

  less : (a b a' b' : ℕ) {r s : Signed} → r ≈ signed a b e → s ≈ signed a' b' e → r ⊟ s ≈ signed (a + b') (b + a') e
  less a b a' b' f g = ≈_trans (⊟_cong f g) (sub_same a b a' b' e e_pos)

  more : (a b a' b' : ℕ) {r s : Signed} → r ≈ signed a b e → s ≈ signed a' b' e → r ⊞ s ≈ signed (a + a') (b + b') e
  more a b a' b' f g = ≈_trans (⊞_cong f g) (add_same a b a' b' e e_pos)

  -- 2T³ − 3T² + 1
  at_knee : number 2 ⊠ τ ³ ⊟ number 3 ⊠ τ ² ⊞ number 1 ≈
      signed (2 * cube⁺ p n + 3 * square⁻ p n d + e) (2 * cube⁻ p n + 3 * square⁺ p n d + 0) e
  at_knee = more _ _ _ _ (less _ _ _ _ (times 2 _ _ cube) (times 3 _ _ square)) unit

  -- T³ − 2T² + T
  at_slope : τ ³ ⊟ number 2 ⊠ τ ² ⊞ τ ≈
      signed (cube⁺ p n + 2 * square⁻ p n d + d * d * p) (cube⁻ p n + 2 * square⁺ p n d + d * d * n) e
  at_slope = more _ _ _ _ (less _ _ _ _ cube (times 2 _ _ square)) itself

  -- −2T³ + 3T²
  at_end : number 3 ⊠ τ ² ⊟ number 2 ⊠ τ ³ ≈
      signed (3 * square⁺ p n d + 2 * cube⁻ p n) (3 * square⁻ p n d + 2 * cube⁺ p n) e
  at_end = less _ _ _ _ (times 3 _ _ square) (times 2 _ _ cube)

-- ---- P × H over 2d³, from the three polynomials over d³ and KS, 1 − KS and maxLum over 2H
cancel : (N M e H : ℕ) → 0 < e → 0 < H → signed N M (e * (2 * H)) ⊠ number H ≈ signed N M (2 * e)
cancel N M e H p q = record { cross = omega arith; low = omega (arith, mul-pos p q); high = omega arith }

combine : (a⁺ a⁻ b⁺ b⁻ z⁺ z⁻ e J H β : ℕ) → 0 < e → 0 < H →
    (signed a⁺ a⁻ e ⊠ signed (3 * J) H (2 * H) ⊞ signed b⁺ b⁻ e ⊠ signed (3 * β) 0 (2 * H) ⊞ signed z⁺ z⁻ e ⊠ signed (2 * J) 0 (2 * H)) ⊠ number H ≈
    signed
    (a⁺ * (3 * J) + a⁻ * H + (b⁺ * (3 * β) + b⁻ * 0) + (z⁺ * (2 * J) + z⁻ * 0))
    (a⁺ * H + a⁻ * (3 * J) + (b⁺ * 0 + b⁻ * (3 * β)) + (z⁺ * 0 + z⁻ * (2 * J)))
    (2 * e)
combine a⁺ a⁻ b⁺ b⁻ z⁺ z⁻ e J H β p q =
    let g = e * (2 * H) in
    let gp : 0 < g = omega (arith, mul-pos p q) in
    let x⁺ = a⁺ * (3 * J) + a⁻ * H in
    let x⁻ = a⁺ * H + a⁻ * (3 * J) in
    let y⁺ = b⁺ * (3 * β) + b⁻ * 0 in
    let y⁻ = b⁺ * 0 + b⁻ * (3 * β) in
    let u⁺ = z⁺ * (2 * J) + z⁻ * 0 in
    let u⁻ = z⁺ * 0 + z⁻ * (2 * J) in
    let one = add_same x⁺ x⁻ y⁺ y⁻ g gp in
    let two = add_same (x⁺ + y⁺) (x⁻ + y⁻) u⁺ u⁻ g gp in
    let sum = ≈_trans (⊞_cong one (≈_refl (signed u⁺ u⁻ g) gp)) two in
    ≈_trans (⊠_cong sum (≈_refl (number H) (omega arith))) (cancel (x⁺ + y⁺ + u⁺) (x⁻ + y⁻ + u⁻) e H p q)

-- ---- the numbers of P × H at T = (2X + H − 3J) / (3β), where H = J + β
abbrev top⁺ : ℕ → ℕ → ℕ → ℕ
top⁺ X J β =
    let p = 2 * X + (J + β) in
    let n = 3 * J in
    let d = 3 * β in
    (2 * cube⁺ p n + 3 * square⁻ p n d + d * d * d) * (3 * J) + (2 * cube⁻ p n + 3 * square⁺ p n d + 0) * (J + β) +
    ((cube⁺ p n + 2 * square⁻ p n d + d * d * p) * (3 * β) + (cube⁻ p n + 2 * square⁺ p n d + d * d * n) * 0) +
    ((3 * square⁺ p n d + 2 * cube⁻ p n) * (2 * J) + (3 * square⁻ p n d + 2 * cube⁺ p n) * 0)

abbrev top⁻ : ℕ → ℕ → ℕ → ℕ
top⁻ X J β =
    let p = 2 * X + (J + β) in
    let n = 3 * J in
    let d = 3 * β in
    (2 * cube⁺ p n + 3 * square⁻ p n d + d * d * d) * (J + β) + (2 * cube⁻ p n + 3 * square⁺ p n d + 0) * (3 * J) +
    ((cube⁺ p n + 2 * square⁻ p n d + d * d * p) * 0 + (cube⁻ p n + 2 * square⁺ p n d + d * d * n) * (3 * β)) +
    ((3 * square⁺ p n d + 2 * cube⁻ p n) * 0 + (3 * square⁻ p n d + 2 * cube⁺ p n) * (2 * J))

-- the one polynomial identity on which the equality rests
identity : (X J β : ℕ) →
    top⁺ X J β * (27 * (β * β)) + 4 * cube⁺ (J + β) X * (2 * (3 * β * (3 * β) * (3 * β))) ≡
    (27 * (β * β * J) + 4 * cube⁻ (J + β) X) * (2 * (3 * β * (3 * β) * (3 * β))) + top⁻ X J β * (27 * (β * β))
identity = ring 3 quoted tt
  where
    C⁺ : E → E → E
    C⁺ p n = p ⊗ p ⊗ p ⊕ # 3 ⊗ (p ⊗ n ⊗ n)

    C⁻ : E → E → E
    C⁻ p n = # 3 ⊗ (p ⊗ p ⊗ n) ⊕ n ⊗ n ⊗ n

    S⁺ : E → E → E → E
    S⁺ p n d = d ⊗ (p ⊗ p ⊕ n ⊗ n)

    S⁻ : E → E → E → E
    S⁻ p n d = d ⊗ (# 2 ⊗ (p ⊗ n))

    T⁺ : E → E → E → E
    T⁺ X J β =
        let p = # 2 ⊗ X ⊕ (J ⊕ β) in
        let n = # 3 ⊗ J in
        let d = # 3 ⊗ β in
        (# 2 ⊗ C⁺ p n ⊕ # 3 ⊗ S⁻ p n d ⊕ d ⊗ d ⊗ d) ⊗ (# 3 ⊗ J) ⊕ (# 2 ⊗ C⁻ p n ⊕ # 3 ⊗ S⁺ p n d ⊕ # 0) ⊗ (J ⊕ β) ⊕
        ((C⁺ p n ⊕ # 2 ⊗ S⁻ p n d ⊕ d ⊗ d ⊗ p) ⊗ (# 3 ⊗ β) ⊕ (C⁻ p n ⊕ # 2 ⊗ S⁺ p n d ⊕ d ⊗ d ⊗ n) ⊗ # 0) ⊕
        ((# 3 ⊗ S⁺ p n d ⊕ # 2 ⊗ C⁻ p n) ⊗ (# 2 ⊗ J) ⊕ (# 3 ⊗ S⁻ p n d ⊕ # 2 ⊗ C⁺ p n) ⊗ # 0)

    T⁻ : E → E → E → E
    T⁻ X J β =
        let p = # 2 ⊗ X ⊕ (J ⊕ β) in
        let n = # 3 ⊗ J in
        let d = # 3 ⊗ β in
        (# 2 ⊗ C⁺ p n ⊕ # 3 ⊗ S⁻ p n d ⊕ d ⊗ d ⊗ d) ⊗ (J ⊕ β) ⊕ (# 2 ⊗ C⁻ p n ⊕ # 3 ⊗ S⁺ p n d ⊕ # 0) ⊗ (# 3 ⊗ J) ⊕
        ((C⁺ p n ⊕ # 2 ⊗ S⁻ p n d ⊕ d ⊗ d ⊗ p) ⊗ # 0 ⊕ (C⁻ p n ⊕ # 2 ⊗ S⁺ p n d ⊕ d ⊗ d ⊗ n) ⊗ (# 3 ⊗ β)) ⊕
        ((# 3 ⊗ S⁺ p n d ⊕ # 2 ⊗ C⁻ p n) ⊗ # 0 ⊕ (# 3 ⊗ S⁻ p n d ⊕ # 2 ⊗ C⁺ p n) ⊗ (# 2 ⊗ J))

    quoted : Quoted 3
    quoted X J β =
        T⁺ X J β ⊗ (# 27 ⊗ (β ⊗ β)) ⊕ # 4 ⊗ C⁺ (J ⊕ β) X ⊗ (# 2 ⊗ (# 3 ⊗ β ⊗ (# 3 ⊗ β) ⊗ (# 3 ⊗ β))) ≐
        (# 27 ⊗ (β ⊗ β ⊗ J) ⊕ # 4 ⊗ C⁻ (J ⊕ β) X) ⊗ (# 2 ⊗ (# 3 ⊗ β ⊗ (# 3 ⊗ β) ⊗ (# 3 ⊗ β))) ⊕ T⁻ X J β ⊗ (# 27 ⊗ (β ⊗ β))

module _ (X J β : ℕ) (h : 0 < β) where
  abbrev H : ℕ
  H = J + β

  abbrev ks : Signed
  ks = KS (J ∕ H)

  H_pos : 0 < H
  H_pos = omega arith

  ks_is : ks ≈ signed (3 * J) H (2 * H)
  unfolding KS
  ks_is = record { cross = omega arith; low = omega arith; high = omega arith }

  rest_is : number 1 ⊟ ks ≈ signed (3 * β) 0 (2 * H)
  rest_is = ≈_trans (⊟_cong (≈_refl (number 1) (omega arith)) ks_is) (record { cross = omega arith; low = omega arith; high = omega arith })

  start_is : X ∕ H ⊟ ks ≈ signed (2 * X + H) (3 * J) (2 * H)
  start_is =
      ≈_trans (⊟_cong (≈_refl (X ∕ H) H_pos) ks_is)
      (record { cross = omega arith; low = omega (arith, mul-pos H_pos H_pos); high = omega arith })

  T_is : T (X ∕ H) ks ≈ signed (2 * X + H) (3 * J) (3 * β)
  unfolding T
  T_is =
      ≈_trans (⊘_cong (3 * β) (2 * H) (omega arith) start_is rest_is)
      (record { cross = omega arith; low = omega (arith, mul-pos H_pos h); high = omega arith })

  max_lum_is : J ∕ H ≈ signed (2 * J) 0 (2 * H)
  max_lum_is = record { cross = omega arith; low = H_pos; high = omega arith }

  hermite_is : hermite X J H ≈ signed (top⁺ X J β) (top⁻ X J β) (2 * (3 * β * (3 * β) * (3 * β)))
  unfolding hermite P
  hermite_is =
      let d = 3 * β in
      let τ = T (X ∕ H) ks in
      let dp : 0 < d = omega arith in
      let f = at_knee τ (2 * X + H) (3 * J) d dp T_is in
      let s = at_slope τ (2 * X + H) (3 * J) d dp T_is in
      let t = at_end τ (2 * X + H) (3 * J) d dp T_is in
      let sum = ⊞_cong (⊞_cong (⊠_cong f ks_is) (⊠_cong s rest_is)) (⊠_cong t max_lum_is) in
      ≈_trans (⊠_cong sum (≈_refl (number H) (omega arith)))
      (combine _ _ _ _ _ _ (d * d * d) J H β (mul-pos (mul-pos dp dp) dp) H_pos)

  short_is : short X J H ≈ signed (27 * (β * β * J) + 4 * cube⁻ H X) (4 * cube⁺ H X) (27 * (β * β))
  unfolding short
  short_is =
      let pos : 0 < 27 * (β * β) = omega (arith, mul-pos h h) in
      let diff : number H ⊟ number X ≈ signed H X 1 = record { cross = omega arith; low = omega arith; high = omega arith } in
      let gap : number H ⊟ number J ≈ β ∕ 1 = record { cross = omega arith; low = omega arith; high = omega arith } in
      let top = times (number H ⊟ number X) H X 1 (omega arith) diff 4 _ _ (cube (number H ⊟ number X) H X 1 (omega arith) diff) in
      let bottom : number 27 ⊠ (number H ⊟ number J) ² ≈ (27 * (β * β)) ∕ 1 =
      ≈_trans (⊠_cong (≈_refl (number 27) (omega arith)) (⊠_cong gap gap))
      (record { cross = omega arith; low = omega arith; high = omega arith }) in
      ≈_trans (⊟_cong (≈_refl (number J) (omega arith)) (⊘_cong (27 * (β * β)) 1 pos top bottom))
      (record { cross = omega arith; low = omega (arith, pos); high = pos })

  same : hermite X J H ≈ short X J H
  same =
      ≈_trans hermite_is
      (≈_trans (record { cross = identity X J β; low = omega (arith, mul-pos (mul-pos h h) h); high = omega (arith, mul-pos h h) }) (≈_sym short_is))

-- ---- document 002's spline is J − 4(H − X)³ / (27(H − J)²)
pub hermite_is_short : (X J H : ℕ) → J < H → hermite X J H ≈ short X J H
hermite_is_short X J H h =
    let v = le_dest (le_of_lt h) in
    subst (λ k. hermite X J k ≈ short X J k) v.1 (same X J v.0 (omega (arith, v.1)))

-- E₁ < KS where 2X < 3J − H, and nowhere else
pub below_KS : (X J H : ℕ) → 0 < H → (X ∕ H ≺ KS (J ∕ H)) ↔ (2 * X + H < 3 * J)
unfolding KS
below_KS X J H h = (
  λ k. lt_of_mul-lt-mul_left (2 * H) {m = 2 * X + H} {n = 3 * J} (omega (arith, k.cross)),
  λ k.
      let g : 0 < 2 * H = omega arith in
      record { cross = omega (arith, mul-lt-mul_of_pos_left k g); low = h; high = omega arith },
)

-- ---- its whole part
cube_parts : (m a : ℕ) → cube⁺ (m + a) m ≡ cube⁻ (m + a) m + a * a * a
cube_parts m a = omega arith

module _ (m t b a s : ℕ) (eq : t + b ≡ m + a) (pos : 0 < b) (f : FloorOfDifference t (4 * a ^ 3) (27 * b ^ 2) s) where
  abbrev value : Signed
  value = signed (27 * (b * b * t) + 4 * cube⁻ (m + a) m) (4 * cube⁺ (m + a) m) (27 * (b * b))

  value_low : number s ≼ value
  value_low =
      record { cross = omega (arith, simp powers at f.low, cube_parts m a); low = omega arith; high = omega (arith, mul-pos pos pos) }

  value_high : value ≺ number (s + 1)
  value_high =
      record { cross = omega (arith, simp powers at f.high, cube_parts m a); low = omega (arith, mul-pos pos pos); high = omega arith }

  value_is : short m t (m + a) ≈ value
  value_is = subst (λ k. short m t k ≈ signed (27 * (b * b * t) + 4 * cube⁻ k m) (4 * cube⁺ k m) (27 * (b * b))) eq (short_is m t b pos)

  floor_of_hermite : IsFloor (hermite m t (m + a)) s
  floor_of_hermite =
      let e = ≈_trans (hermite_is_short m t (m + a) (omega arith)) value_is in
      record { low = ≼-≈ value_low (≈_sym e); high = ≈-≺ e value_high }

-- The engine's spline, from the knee to the peak, is document 002's, rounded down to a position.
pub hermite_is_spline : (t w m : ℕ) → t < w → w ≤ 3 * t → m ≤ w → 3 * t ≤ 2 * m + w → IsFloor (hermite m t w) (spline t w m)
hermite_is_spline t w m p h l k =
    subst (λ v. IsFloor (hermite m t v) (spline t w m)) (omega arith)
    (floor_of_hermite m t (w - t) (w - m) (spline t w m) (omega arith) (omega arith) (spline_floor t w m p h k))
