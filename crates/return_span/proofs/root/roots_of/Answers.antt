-- `return_span::root::roots_of` meets its contract: its two tests compare the power of a guess with that of the root, by `RootLaws`.
use Rattle.std.proofs.Common.{◌≡◌, ℕ, ◌+◌, ◌-◌, ◌*◌, ◌/◌, ◌%◌, ◌^◌, ◌<◌, ◌≤◌, sym, ap, ◌∙◌, subst, le_trans, mod-eq_of_lt}
use Rattle.std.proofs.Common.{mul-le-mul_left, div-add-mod', arith, lit<, pow_pos, pow_mono, pow-add}
use lib.Pow.{shl-shr}
use Rattle.laws.proofs.DivisionLaws.{floor_le, lt_floor}
use Rattle.laws.proofs.PowerLaws.{of_power}
use Rattle.return_span.proofs.RootLaws.{black_root, Fifth, fifth_under, fifth_over, lowered, lifted, some_guess, low_root, high_root}
use Rattle.return_span.proofs.root.roots_of.Goals as goal
use Rattle.return_span.proofs.root.roots_of.Goals.{After-upper_word-fifth, Else-fifth-power}

-- y moved up by all its zeros, and down by their rest by five, is scaled by a fifth power
scaled_up : (y z : ℕ) → y * 2 ^ z < 2 ^ 64 → y * 2 ^ z % 2 ^ 64 / 2 ^ (z % 5) ≡ y * (2 ^ (z / 5)) ^ 5
scaled_up y z h =
    let parts : 2 ^ z ≡ (2 ^ (z / 5)) ^ 5 * 2 ^ (z % 5) =
    ap (λ (i : ℕ). 2 ^ i) (sym (div-add-mod' z 5)) ∙ pow-add 2 (z / 5 * 5) (z % 5) ∙ ap (λ (i : ℕ). i * 2 ^ (z % 5)) (sym (of_power 2 (z / 5) 5)) in
    let moved : y * 2 ^ z ≡ y * (2 ^ (z / 5)) ^ 5 * 2 ^ (z % 5) = omega (arith, ap (λ (i : ℕ). y * i) parts) in
    ap (λ (i : ℕ). i / 2 ^ (z % 5)) (mod-eq_of_lt h ∙ moved) ∙ shl-shr (y * (2 ^ (z / 5)) ^ 5) (z % 5)

-- a bound moved down to the root's scale, from below and from above
shifted_down : (v k : ℕ) → v / 2 ^ (26 + k) * (2 ^ 26 * 2 ^ k) ≤ v
shifted_down v k = subst (λ (m : ℕ). v / 2 ^ (26 + k) * m ≤ v) (pow-add 2 26 k) (floor_le v (2 ^ (26 + k)))

shifted_up : (v k : ℕ) → v < (v / 2 ^ (26 + k) + 1) * (2 ^ 26 * 2 ^ k)
shifted_up v k = subst (λ (m : ℕ). v < (v / 2 ^ (26 + k) + 1) * m) (pow-add 2 26 k) (lt_floor v (2 ^ (26 + k)) (pow_pos (26 + k)))

-- a guess and a part of it, moved down apart
shifted_up_both : (w k l : ℕ) → w + k ≤ (w / 2 ^ (26 + l) + k / 2 ^ (26 + l) + 2) * (2 ^ 26 * 2 ^ l)
shifted_up_both w k l = omega (arith, shifted_up w l, shifted_up k l)

weighed_down : (n w p : ℕ) → p ≡ n * w / 2 ^ 64 → p * 2 ^ 64 ≤ n * w
weighed_down n w p e = omega (arith, floor_le (n * w) (2 ^ 64))

weighed_up : (n w p : ℕ) → p ≡ n * w / 2 ^ 64 → n * w ≤ (p + 1) * 2 ^ 64
weighed_up n w p e = omega (arith, lt_floor (n * w) (2 ^ 64) (lit< tt))

-- the guess's power, by its three products
power_of_lem : (c : After-upper_word-fifth) → Fifth c.root_hint-guess.result c.upper_word-square.result c.upper_word.result c.upper_word-fifth.result
power_of_lem c =
    record { square = c.upper_word-square.ensures; fourth = c.upper_word.ensures; fifth = c.upper_word-fifth.ensures }

-- the least that a power may be near to is a word: what is taken off it is at least what is added, or it is small
least_fits : (p : ℕ) → p < 2 ^ 64 → p - p / 262144 + 4 < 2 ^ 64
least_fits p h = omega arith

-- a guess that passed both tests is not 0
some_part : (c : Else-fifth-power) → let w = c.root_hint-guess.result in w / 1048576 + 1 ≤ w
some_part c =
    let power : Fifth c.root_hint-guess.result c.upper_word-square.result c.upper_word.result c.upper_word-fifth.result =
    record { square = c.upper_word-square.ensures; fourth = c.upper_word.ensures; fifth = c.upper_word-fifth.ensures } in
    some_guess _ c.upper_word-fifth.result (omega (arith, c.if-fifth-power.false)) (fifth_under _ _ _ _ power)

-- moved down, a number is a quarter of itself at most, so both parts of the upper bound have room in a word
quartered : (v k : ℕ) → 4 * (v / 2 ^ (26 + k)) ≤ v
quartered v k =
    let q = v / 2 ^ (26 + k) in
    omega (arith, le_trans (mul-le-mul_left q (pow_mono {i = 2} {j = 26 + k} (omega arith))) (floor_le v (2 ^ (26 + k))))

high_fits : (c : Else-fifth-power) → let w = c.root_hint-guess.result in
    let shift = 26 + c.leading_zeros-z.result / 5 in
    w / 2 ^ shift + (w / 1048576 + 1) / 2 ^ shift + 2 < 2 ^ 64
high_fits c =
    let w = c.root_hint-guess in
    let k = c.leading_zeros-z.result / 5 in
    omega (arith, w.type_inv, some_part c, quartered w.result k, quartered (w.result / 1048576 + 1) k)

pub returns : goal.returns
returns c =
    let y = c.args.y in
    let z = c.leading_zeros-z.result in
    let w = c.root_hint-guess.result in
    let p = c.upper_word-fifth.result in
    let n = y * 2 ^ z % 2 ^ 64 / 2 ^ (z % 5) in
    let q = c.upper_word-power in
    let part = w / 1048576 + 1 in
    let input = scaled_up y z c.leading_zeros-z.ensures.1 in
    let power = power_of_lem (goal.at.returns c).After-upper_word-fifth in (
      omega arith,
      record {
        low = λ _. low_root y n (2 ^ (z / 5)) q.result input (pow_pos (z / 5)) (w - part) _
            (lowered w p q.result (w - part) (fifth_over w _ _ p c.root_hint-guess.type_inv c.upper_word-square.type_inv power)
            c.if-power-fifth.false (omega (arith, some_part (goal.at.returns c).Else-fifth-power)))
            (weighed_down n _ q.result q.ensures) (shifted_down (w - part) (z / 5));
        high = λ _. high_root y n (2 ^ (z / 5)) q.result input (pow_pos (z / 5)) (w + part) _
            (lifted w p q.result (w + part) (fifth_under w _ _ p power) c.if-fifth-power.false (omega arith))
            (weighed_up n _ q.result q.ensures) (shifted_up_both w part (z / 5));
      },
    )

pub returns-then-y-eq0 : goal.returns-then-y-eq0
returns-then-y-eq0 c = (omega arith, rw c.if-y-eq0.true black_root)

pub overflow_add-fifth : goal.overflow_add-fifth
overflow_add-fifth c = record { fits = least_fits c.upper_word-fifth.result c.upper_word-fifth.type_inv }

pub overflow_add-result : goal.overflow_add-result
overflow_add-result c = record { fits = omega (arith, high_fits (goal.at.overflow_add-result c).Else-fifth-power) }

pub overflow_add-result-2 : goal.overflow_add-result-2
overflow_add-result-2 c = record { fits = high_fits (goal.at.overflow_add-result-2 c).Else-fifth-power }

pub overflow_sub-result : goal.overflow_sub-result
overflow_sub-result c = some_part (goal.at.overflow_sub-result c).Else-fifth-power
