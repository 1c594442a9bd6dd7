-- `span::root::lower_root` meets its contract: its tests are those of a guess near the root, and its three roundings those of a step, by `EnclosureLaws`.
use Rattle.std.proofs.Common.{◌≡◌, ℕ, zero, suc, ◌+◌, ◌-◌, ◌*◌, ◌/◌, ◌%◌, ◌^◌}
use Rattle.std.proofs.Common.{◌<◌, ◌≤◌, sym, refl, ap, ◌∙◌, lt_of_le_of_lt, mul-le-mul_left, mod-lt, mod-eq_of_lt}
use Rattle.std.proofs.Common.{div-add-mod', arith, lit<, pow_pos, pow_mono, pow-add}
use lib.Pow.{shl-shr, shr_le}
use Rattle.laws.proofs.DivisionLaws.{floor_is}
use Rattle.laws.proofs.PowerLaws.{of_power}
use Rattle.hlg.proofs.NewtonLaws.{whole, sixth, spread}
use Rattle.hlg.proofs.EnclosureLaws.{Passed, Stepped, enclosed}
use Rattle.span.proofs.root.lower_root.Goals as goal

-- y moved up by all its zeros, and down by their rest by six, is scaled by a sixth power
scaled_up : (y z : ℕ) → y * 2 ^ z < 2 ^ 64 → y * 2 ^ z % 2 ^ 64 / 2 ^ (z % 6) ≡ y * (2 ^ (z / 6)) ^ 6
scaled_up y z h =
    let parts : 2 ^ z ≡ (2 ^ (z / 6)) ^ 6 * 2 ^ (z % 6) =
    ap (λ (i : ℕ). 2 ^ i) (sym (div-add-mod' z 6)) ∙ pow-add 2 (z / 6 * 6) (z % 6) ∙ ap (λ (i : ℕ). i * 2 ^ (z % 6)) (sym (of_power 2 (z / 6) 6)) in
    let moved : y * 2 ^ z ≡ y * (2 ^ (z / 6)) ^ 6 * 2 ^ (z % 6) = omega (arith, ap (λ (i : ℕ). y * i) parts) in
    ap (λ (i : ℕ). i / 2 ^ (z % 6)) (mod-eq_of_lt h ∙ moved) ∙ shl-shr (y * (2 ^ (z / 6)) ^ 6) (z % 6)

input_word : (y z : ℕ) → y * 2 ^ z % 2 ^ 64 / 2 ^ (z % 6) < 2 ^ 64
input_word y z = lt_of_le_of_lt (shr_le (y * 2 ^ z % 2 ^ 64) (z % 6)) (mod-lt (y * 2 ^ z) (lit< tt))

-- the scales of root and luminance make 2⁴²
scales : (k : ℕ) → k ≤ 7 → 2 ^ (38 - k) * 16 * 2 ^ k ≡ 2 ^ 42
scales k h =
    let e : 38 - k + k ≡ 38 = omega arith in
    let whole_scale : 2 ^ (38 - k) * 2 ^ k ≡ 2 ^ 38 = sym (pow-add 2 (38 - k) k) ∙ ap (λ (i : ℕ). 2 ^ i) e in
    omega (arith, whole_scale)

-- a power that passes, by its wrapping difference from the least one
power_near : (q : ℕ) → q < 2 ^ 64 → (q + 18434365673316697814) % 2 ^ 64 ≤ 2000000000000 → (whole ≤ q + spread) × (q ≤ whole + spread)
power_near q h l = (omega arith, omega arith)

under_seven : (q : ℕ) → q ≤ whole + spread → q ≤ 7 * whole
under_seven q h = omega arith

pub overflow_sub-power : goal.overflow_sub-power
overflow_sub-power c =
    under_seven c.raised-power.result (power_near c.raised-power.result c.raised-power.type_inv c.if-power-gt-SPREAD.false).1

-- the step of a guess that passed, with k for the sixth part of the zeros
stepped : (w q e h k : ℕ) → k ≤ 7 → q ≤ 7 * whole → e ≡ w * sixth / 2 ^ 64 → h ≡ e * ((7 * whole - q) * 128) / 2 ^ 64
    → Stepped w q (7 * whole - q) e h (h / 2 ^ (38 - k)) (2 ^ (38 - k))
stepped w q e h k small under ee eh = record {
  rest = omega arith;
  first = (floor_is (lit< tt)).0 ee;
  second = (floor_is (lit< tt)).0 eh;
  last = (floor_is (pow_pos (38 - k))).0 refl;
  scale = pow_mono {i = 31} {j = 38 - k} (omega arith);
}

sixth_part : (z : ℕ) → z ≤ 47 → z / 6 ≤ 7
sixth_part z h = omega arith

-- it is far from 0
positive : (h s q : ℕ) → s ≤ h → h < (q + 1) * s → 0 < q
positive h s zero l u = absurd (omega arith)
positive h s (suc q) l u = omega arith

some : (w q e h s : ℕ) → 2 ^ 62 ≤ w → q ≤ whole + spread → e ≡ w * sixth / 2 ^ 64 → h ≡ e * ((7 * whole - q) * 128) / 2 ^ 64 → 0 < s → s ≤ 2 ^ 38 → 0 < h / s
some w q e h s guess most ee eh pos scale =
    let part : 2 ^ 63 ≤ (7 * whole - q) * 128 = omega arith in
    let step : 2 ^ 58 ≤ e = omega arith in
    let product : e * 2 ^ 63 ≤ e * ((7 * whole - q) * 128) = mul-le-mul_left e part in
    let room : s ≤ h = omega arith in
    positive h s (h / s) room ((floor_is pos).0 refl).1

pub returns : goal.returns
returns c =
    let y = c.args.y in
    let z = c.leading_zeros-z.result in
    let w = c.root_hint-w.result in
    let s = c.raised-square.result in
    let q = c.raised-power.result in
    let e = c.upper_word-sixth in
    let h = c.upper_word in
    let k : z / 6 ≤ 7 = sixth_part z c.if-z-gt47.false in
    let close = power_near q c.raised-power.type_inv c.if-power-gt-SPREAD.false in
    let passed : Passed (y * 2 ^ z % 2 ^ 64 / 2 ^ (z % 6)) w s c.raised-weighed.result c.raised-fourth.result q = record {
      square = c.raised-square.ensures;
      weighed = c.raised-weighed.ensures;
      fourth = c.raised-fourth.ensures;
      power = c.raised-power.ensures;
      least = c.if-w-lt-GUESS.false;
      guess_word = c.root_hint-w.type_inv;
      square_word = c.raised-square.type_inv;
      input_word = input_word y z;
      above = close.0;
      below = close.1;
    } in (
      some w q e.result h.result _ c.if-w-lt-GUESS.false close.1 e.ensures h.ensures (pow_pos (38 - z / 6)) (pow_mono {i = 38 - z / 6} {j = 38} (omega arith)),
      enclosed y _ (2 ^ (z / 6)) w s _ _ q _ e.result h.result _ _ passed
          (stepped w q e.result h.result (z / 6) k (under_seven q close.1) e.ensures h.ensures)
          (scales (z / 6) k)
          (scaled_up y z c.leading_zeros-z.ensures.1),
    )
