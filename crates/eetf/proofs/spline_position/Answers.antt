-- `eetf::spline_position` meets its contract: from the knee to the peak 4(w − m)³ is at most 27(w − t)²t.
use Prim.Native.Nat.{ℕ, ◌-◌, ◌*◌, ◌≤◌}
use native.Mathlib.Nat.{mul-le-mul, mul-le-mul_left}
use native.Mathlib.Omega.{arith}
use Rattle.laws.proofs.PowerLaws.{powers}
use Rattle.eetf.specs.Curve.{spline}
use Rattle.eetf.proofs.spline_position.Goals as goal

-- a is at most three halves of b
cube_le : (a b : ℕ) → 2 * a ≤ 3 * b → b ≤ 222618 → 8 * (a * a * a) ≤ 9 * (b * b) * 674406
cube_le a b h k =
    let far : 3 * b ≤ 674406 = omega arith in
    omega (arith, mul-le-mul h (mul-le-mul h h), mul-le-mul_left (b * b) far)

pub overflow_sub-result : goal.overflow_sub-result
overflow_sub-result c = omega (arith, cube_le (c.args.w - c.args.m) (c.args.w - 674406) (omega arith) (omega arith))

pub returns : goal.returns
unfolding spline
returns c = simp powers
