-- Laws of differences cut off at 0, and of division rounded down and rounded up.
use mathlib.Core.Path.{◌≡◌, sym, ◌∙◌, subst, subst₂}
use mathlib.Core.Logic.{◌↔◌}
use Prim.Native.Nat.{ℕ, zero, suc, pred, ◌+◌, ◌-◌, ◌*◌, ◌/◌, ◌≤◌, ◌<◌}
use native.Mathlib.Nat.{le_refl, le_trans, zero-lt-suc, mul_comm, mul-sub, div-zero}
use native.Mathlib.Nat.{div-add-mod, div-mul-le_self, le-div_iff_mul-le, mod-lt, div-eq_of_lt-le, lt-div-mul-add, suc-mul}
use native.Mathlib.Omega.{arith}

pub sub_mul : (m n k : ℕ) → (m - n) * k ≡ m * k - n * k
sub_mul m n k = mul_comm (m - n) k ∙ mul-sub k m n ∙ omega arith

pub floor_le : (a b : ℕ) → a / b * b ≤ a
floor_le a b = omega (arith, div-add-mod a b)

pub lt_floor : (a b : ℕ) → 0 < b → a < (a / b + 1) * b
lt_floor a b p = omega (arith, div-add-mod a b, mod-lt a p)

-- the floor is the one whole number between
pub floor_is : {q a b : ℕ} → 0 < b → (q ≡ a / b) ↔ ((q * b ≤ a) × (a < (q + 1) * b))
floor_is {q} {a} {b} p = (
  λ e. (subst (λ t. t * b ≤ a) (sym e) (floor_le a b), subst (λ t. a < (t + 1) * b) (sym e) (lt_floor a b p)),
  λ h. sym (div-eq_of_lt-le b h.0 h.1),
)

pub floor_grows : (a b m : ℕ) → a ≤ b → a / m ≤ b / m
floor_grows a b zero h = subst₂ ◌≤◌ (sym (div-zero a)) (sym (div-zero b)) (le_refl zero)
floor_grows a b (suc m) h = (le-div_iff_mul-le (zero-lt-suc m)).1 (le_trans (div-mul-le_self a (suc m)) h)

-- a / b rounded up; 1 where a is 0
abbrev pub ceiling : ℕ → ℕ → ℕ
ceiling a b = suc (pred a / b)

pub le_ceiling : (a b : ℕ) → 0 < b → a ≤ ceiling a b * b
le_ceiling a b h = rw (suc-mul (pred a / b) b) (omega (arith, lt-div-mul-add {a = pred a} {b = b} h))
