-- `eetf::map_component` meets its contract: where the brightest is 0, so is the quotient.
use mathlib.Core.Path.{◌≡◌, sym, ap, ◌∙◌}
use Prim.Native.Nat.{ℕ, min, ◌*◌, ◌/◌}
use native.Mathlib.Nat.{div-zero}
use native.Mathlib.Omega.{arith}
use Rattle.quantity.specs.Units.{units, thousand, ten_thousand}
use Rattle.eetf.specs.Curve.{mapped_light}
use Rattle.eetf.proofs.map_component.Goals as goal

dark : (c m1 m2 : ℕ) → m1 ≡ 0 → 0 ≡ mapped_light (min c m1) m1 m2
unfolding mapped_light
dark c m1 m2 e = sym (ap (λ (x : ℕ). min c x * m2 / x) e ∙ div-zero (min c 0 * m2))

pub returns-then-brightest-eq0 : goal.returns-then-brightest-eq0
unfolding units thousand ten_thousand
returns-then-brightest-eq0 c =
    let a = c.args in
    dark a.c.0 (min a.m1.0 167772160000) (min a.m2.0 16777216000) (omega arith)
