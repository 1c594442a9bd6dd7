-- `eetf::scale` meets its contract: both parts' products fit, and the two quotients add up to the whole one.
use Prim.Native.Nat.{ℕ, ◌+◌, ◌*◌, ◌/◌, ◌%◌, ◌≤◌}
use native.Mathlib.Nat.{mul-le-mul, mod-lt, div-le_self}
use native.Mathlib.Omega.{arith}
use Rattle.quantity.specs.Units.{units, ten_thousand}
use Rattle.eetf.specs.Curve.{mapped_light}
use Rattle.eetf.proofs.MappingLaws.{by_parts, ratio_le}
use Rattle.eetf.proofs.scale.Goals as goal

product_le : (c h : ℕ) → c ≤ 167772160000 → h ≤ 1280000 → c * h ≤ 167772160000 * 1280000
product_le c h p q = mul-le-mul p q

pub overflow_mul-upper : goal.overflow_mul-upper
unfolding units ten_thousand
overflow_mul-upper c = omega (arith, product_le c.args.c (c.args.m2 / 131072) (omega arith) (omega arith))

pub overflow_mul-lower : goal.overflow_mul-lower
unfolding units ten_thousand
overflow_mul-lower c = omega (arith, product_le c.args.c (c.args.m2 % 131072) (omega arith) (omega arith))

pub overflow_mul-result-2 : goal.overflow_mul-result-2
unfolding units ten_thousand
overflow_mul-result-2 c = omega (arith, mod-lt (c.args.c * (c.args.m2 / 131072)) {m = c.args.m1} (omega arith))

pub overflow_add-result : goal.overflow_add-result
unfolding units ten_thousand
overflow_add-result c =
    omega (
      arith,
      mod-lt (c.args.c * (c.args.m2 / 131072)) {m = c.args.m1} (omega arith),
      product_le c.args.c (c.args.m2 % 131072) (omega arith) (omega arith),
    )

pub overflow_add-result-2 : goal.overflow_add-result-2
unfolding units ten_thousand
overflow_add-result-2 c =
    let h = c.args.m2 / 131072 in
    let l = c.args.m2 % 131072 in
    omega (
      arith,
      ratio_le c.args.c c.args.m1 h (omega arith),
      div-le_self (c.args.c * h % c.args.m1 * 131072 + c.args.c * l) c.args.m1,
      mod-lt (c.args.c * h) {m = c.args.m1} (omega arith),
      product_le c.args.c l (omega arith) (omega arith),
    )

pub returns : goal.returns
unfolding mapped_light
returns c = by_parts c.args.c c.args.m1 c.args.m2 131072 (omega arith)
