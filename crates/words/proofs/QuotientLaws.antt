-- A tested quotient is the floor.
use Rattle.std.proofs.Common.{◌≡◌, ℕ, ◌+◌, ◌*◌, ◌/◌, ◌<◌, ◌≤◌, true, ltb, leb, arith, ltb-true}
use Rattle.std.proofs.Common.{leb-true}
use Rattle.std.proofs.Common.{◌%◌, ◌^◌, Bool, ◌&&◌, le-ltb, lt-ltb, le-leb, sym, ap, ap₂, ◌∙◌, mul-le-mul}
use native.Mathlib.Decide.{dec_le}
use borrow.Author.Tests.{lt-leb}
use mathlib.Core.Bool.{and-eq-true_iff}
use Rattle.laws.proofs.DivisionLaws.{floor_is}
use Rattle.words.specs.Quotient.{is_quotient}

-- what passes the test is the floor
pub quotient_is : (q n m : ℕ) → is_quotient q n m ≡ true → q ≡ n / m
unfolding is_quotient
quotient_is q n m e =
    let w = (and-eq-true_iff (leb (q * m) n) (ltb n (q * m + m))).0 e in
    let low : q * m ≤ n = leb-true (q * m) n w.0 in
    let high : n < q * m + m = ltb-true n (q * m + m) w.1 in
    (floor_is {q = q} {a = n} {b = m} (omega arith)).1 (low, omega arith)

-- where q m and r make n, r alone decides
pub rest_decides : (q n m r : ℕ) → q * m + r ≡ n → ltb r m ≡ is_quotient q n m
unfolding is_quotient
rest_decides q n m r e = go (dec_le m r)
  where
    low : leb (q * m) n ≡ true
    low = le-leb (q * m) n (omega arith)

    go : Dec (m ≤ r) → ltb r m ≡ (leb (q * m) n && ltb n (q * m + m))
    go (yes h) = le-ltb r m h ∙ sym (ap₂ ◌&&◌ low (le-ltb n (q * m + m) (omega arith)))
    go (no h) = lt-ltb r m (omega arith) ∙ sym (ap₂ ◌&&◌ low (lt-ltb n (q * m + m) (omega arith)))

-- the difference r of n and q m in 128 bits decides alone: it is a rest below m, or wraps to more than a word
pub difference_decides : (q n m r : ℕ) → (r + q * m) % 2 ^ 128 ≡ n → q < 2 ^ 64 → m < 2 ^ 64 → n < 2 ^ 128 → r < 2 ^ 128 → ltb r m ≡ is_quotient q n m
unfolding is_quotient
difference_decides q n m r e hq hm hn hr = go (dec_le (q * m) n)
  where
    part : q * m ≤ 18446744073709551615 * 18446744073709551615
    part = mul-le-mul {n₁ = q} {m₁ = m} {n₂ = 18446744073709551615} {m₂ = 18446744073709551615} (omega arith) (omega arith)

    go : Dec (q * m ≤ n) → ltb r m ≡ (leb (q * m) n && ltb n (q * m + m))
    go (yes h) = rest_decides q n m r (omega arith)
    go (no h) = le-ltb r m (omega (arith, part)) ∙ sym (ap (λ (b : Bool). b && ltb n (q * m + m)) (lt-leb (q * m) n (omega arith)))
