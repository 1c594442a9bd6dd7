-- Laws of `reaches`: what it says as an inequality, its growth with the step and the component, and greys; from the order of powers.
use mathlib.Core.Path.{◌≡◌, refl, sym, ◌∙◌, ap, ap₂}
use mathlib.Core.Bool.{Bool, true, false, ◌&&◌, true≢false, and-eq-true_iff}
use Prim.Native.Nat.{ℕ, ◌*◌, ◌^◌, ◌≤◌, ◌<◌}
use native.Mathlib.Nat.{le_trans, lt_of_lt_of_le, mul-le-mul_left, mul-le-mul_right, le_of_mul-le-mul_right, pow-le-pow_left, pow-suc}
use native.Mathlib.Omega.{arith}
use lib.Dec.{leb}
use borrow.Author.Tests.{ltb-true, leb-true, lt-ltb, le-ltb, le-leb}
use Rattle.quantity.specs.Units.{thousand}
use Rattle.hlg.specs.Code.{luminance, reaches}

-- a component R of a pixel with luminance Y reaches the step T
pub record Reached (T Y R : ℕ) : Type 0 where
  pub some : 0 < R
  pub power : T ^ 6 * thousand ^ 5 * Y ≤ 2 ^ 240 * 10000 * R ^ 6

pub reached : (T Y R : ℕ) → reaches T Y R ≡ true → Reached T Y R
unfolding reaches
reached T Y R e = let w = (and-eq-true_iff _ _).0 e in record { some = ltb-true 0 R w.0; power = leb-true _ _ w.1 }

pub reaching : (T Y R : ℕ) → Reached T Y R → reaches T Y R ≡ true
unfolding reaches
reaching T Y R h = ap₂ ◌&&◌ (lt-ltb 0 R h.some) (le-leb _ _ h.power)

-- a component of 0 reaches no step; for any other the inequality decides
pub component_dark : (T Y R : ℕ) → R ≤ 0 → false ≡ reaches T Y R
unfolding reaches
component_dark T Y R h = sym (ap (λ b. b && leb (T ^ 6 * thousand ^ 5 * Y) (2 ^ 240 * 10000 * R ^ 6)) (le-ltb 0 R h))

pub component_lit : (T Y R : ℕ) → 0 < R → leb (T ^ 6 * thousand ^ 5 * Y) (2 ^ 240 * 10000 * R ^ 6) ≡ reaches T Y R
unfolding reaches
component_lit T Y R h = sym (ap (λ b. b && leb (T ^ 6 * thousand ^ 5 * Y) (2 ^ 240 * 10000 * R ^ 6)) (lt-ltb 0 R h))

-- ---- the step: a step that is reached leaves none below it, so one that is not leaves all above it
lower : {S T Y R : ℕ} → S ≤ T → Reached T Y R → Reached S Y R
lower {Y = Y} h k =
    record { some = k.some; power = le_trans (mul-le-mul_right Y (mul-le-mul_right (thousand ^ 5) (pow-le-pow_left h 6))) k.power }

pub missed_above : (S T Y R : ℕ) → S ≤ T → reaches S Y R ≡ false → reaches T Y R ≡ false
missed_above S T Y R h e = go (reaches T Y R) refl
  where
    go : (b : Bool) → reaches T Y R ≡ b → reaches T Y R ≡ false
    go false f = f
    go true f = absurd (true≢false (sym (reaching S Y R (lower h (reached T Y R f))) ∙ e))

-- ---- the component: a brighter one in the same luminance reaches what a darker one does
pub brighter : {T Y R R' : ℕ} → R ≤ R' → Reached T Y R → Reached T Y R'
brighter h k = record { some = lt_of_lt_of_le k.some h; power = le_trans k.power (mul-le-mul_left (2 ^ 240 * 10000) (pow-le-pow_left h 6)) }

-- ---- a grey: its luminance is 10,000 times its component, so one of the six factors R cancels
cancel : (p k c r : ℕ) → 0 < r → p * k * luminance r r r ≤ c * r ^ 6 → p * k * 10000 ≤ c * r ^ 5
cancel p k c r pos h = le_of_mul-le-mul_right {k = r} (omega (arith, ap (λ x. c * x) (pow-suc r 5))) pos

restore : (p k c r : ℕ) → p * k * 10000 ≤ c * r ^ 5 → p * k * luminance r r r ≤ c * r ^ 6
restore p k c r h = omega (arith, mul-le-mul_right r h, ap (λ x. c * x) (pow-suc r 5))

pub brighter_grey : {T r r' : ℕ} → r ≤ r' → Reached T (luminance r r r) r → Reached T (luminance r' r' r') r'
brighter_grey {T} {r} {r'} h k =
    let c = 2 ^ 240 * 10000 in
    let own = cancel (T ^ 6) (thousand ^ 5) c r k.some k.power in
    record {
      some = lt_of_lt_of_le k.some h;
      power = restore (T ^ 6) (thousand ^ 5) c r' (le_trans own (mul-le-mul_left c (pow-le-pow_left h 5)));
    }
