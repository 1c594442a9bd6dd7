-- A value less itself is 0 where it is a number, and otherwise none. The library's test, which the code calls, passes just these values: so it tells what
-- refusal 16 is for.
use Rattle.std.proofs.Common.{◌≡◌, ℕ, ◌-◌, ◌*◌, ◌<◌, Bool, true, false, cond, not, ◌&&◌, ◌||◌, eqb, ltb, sym, refl, ◌∙◌, le_refl, mul-pos, zero-mul, arith}
use Rattle.std.proofs.Common.{lit<, le-ltb, eq-eqb}
use mathlib.Core.Bool.{beq}
use native.Mathlib.Nat.{eq_of_mul-eq-mul_right}
use lib.Ieee.{Float, nan, inf, fin, up, down, sub, sum, round, binary32, eq}
use Rattle.std.specs.Float.{float_is_finite}
use lib.Ieee.Exact.{HasValue, round_exact}
use lib.Ieee.Fits.{down_pos}
use Rattle.linear_light.specs.LinearLight.{no_light, finite}

-- a value of size 0 equals 0, whatever its sign
level_none : (y : Float) (s : Bool) (c : ℕ) → 0 < c → HasValue y s 0 c → eq y no_light ≡ true
unfolding eq
level_none nan s c p v = absurd v
level_none (inf t) s c p v = absurd v
level_none (fin t n d) s c p v =
    let z : n * up d ≡ 0 = eq_of_mul-eq-mul_right c p (n * up d) 0 (v.1 ∙ zero-mul (down d) ∙ sym (zero-mul c)) in
    let a : eqb (n * up d * 1) (0 * 1 * down d) ≡ true = eq-eqb (n * up d * 1) (0 * 1 * down d) (omega arith) in
    let b : eqb (n * up d * 1) 0 ≡ true = eq-eqb (n * up d * 1) 0 (omega arith) in
    simp (a, b) (either t)
  where
    either : (t : Bool) → (beq t false || true) ≡ true
    either true = refl
    either false = refl

-- a difference of 0 is not rounded
difference : (s : Bool) (c : ℕ) → 0 < c → eq (round binary32 s 0 c) no_light ≡ true
difference s c p = level_none (round binary32 s 0 c) s c p (round_exact binary32 s 0 c 0 0 p (lit< tt) (lit< tt) (sym (zero-mul c)))

-- opposite values of one size a / c
opposite : (s : Bool) (a c : ℕ) → 0 < c → eq (sum binary32 s a (not s) a c) no_light ≡ true
unfolding sum
opposite s a c p = go s
  where
    less : ltb a a ≡ false
    less = le-ltb a a (le_refl a)

    none : a - a ≡ 0
    none = omega arith

    left : (s t : Bool) → eq (cond (ltb a a) (round binary32 t (a - a) c) (round binary32 (s && ltb a a) (a - a) c)) no_light ≡ true
    left s t = rw (less, none) (difference (s && false) c p)

    go : (s : Bool) → eq (sum binary32 s a (not s) a c) no_light ≡ true
    go true = left true false
    go false = left false true

pub finite_by_difference : (x : Float) → eq (sub binary32 x x) no_light ≡ finite x
unfolding sub finite eq
finite_by_difference nan = refl
finite_by_difference (inf true) = refl
finite_by_difference (inf false) = refl
finite_by_difference (fin s m e) = opposite s (m * up e * down e) (down e * down e) (mul-pos (down_pos e) (down_pos e))

library_test : (x : Float) → float_is_finite x ≡ finite x
unfolding float_is_finite finite
library_test nan = refl
library_test (inf s) = refl
library_test (fin s m e) = refl

pub library_by_difference : (x : Float) → float_is_finite x ≡ eq (sub binary32 x x) no_light
library_by_difference x = library_test x ∙ sym (finite_by_difference x)
