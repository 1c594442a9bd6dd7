-- The quotient of a product by two divisions: M2 is split in two parts, and the first remainder goes into the second division.
use mathlib.Core.Path.{◌≡◌, sym, ap, ◌∙◌}
use Prim.Native.Nat.{ℕ, ◌+◌, ◌*◌, ◌/◌, ◌%◌, ◌≤◌, ◌<◌}
use native.Mathlib.Nat.{div-add-mod', mul-add-div_right, div-le_of_le-mul, mul-le-mul_right}
use native.Mathlib.Omega.{arith}

parts : (c h l b m q s : ℕ) → c * h ≡ q * m + s → c * (h * b + l) ≡ q * b * m + (s * b + c * l)
parts c h l b m q s e = omega (arith, ap (λ x. x * b) e)

pub by_parts : (c m1 m2 b : ℕ) → 0 < m1 → c * (m2 / b) / m1 * b + (c * (m2 / b) % m1 * b + c * (m2 % b)) / m1 ≡ c * m2 / m1
by_parts c m1 m2 b pos =
    let p = c * (m2 / b) in
    let whole = ap (λ x. c * x) (sym (div-add-mod' m2 b)) ∙ parts c (m2 / b) (m2 % b) b m1 (p / m1) (p % m1) (sym (div-add-mod' p m1)) in
    sym (ap (λ x. x / m1) whole ∙ mul-add-div_right pos (p / m1 * b) (p % m1 * b + c * (m2 % b)))

-- a component is at most the brightest, so its product over the brightest is at most the other factor
pub ratio_le : (c m1 h : ℕ) → c ≤ m1 → c * h / m1 ≤ h
ratio_le c m1 h l = div-le_of_le-mul m1 {m = c * h} {n = h} (mul-le-mul_right h l)
