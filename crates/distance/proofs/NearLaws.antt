-- A pixel's fractions lie near its mapped numbers: a ratio q / p and a few units apart. From lights that are enclosed within a unit, rounded down or
-- to the nearest. All lights in units.
use mathlib.Core.Path.{◌≡◌, ap, subst}
use Prim.Native.Nat.{ℕ, ◌+◌, ◌-◌, ◌*◌, ◌≤◌, ◌<◌}
use native.Mathlib.Nat.{le_trans, mul-le-mul, mul-le-mul_left, mul-le-mul_right, le_of_mul-le-mul_right, lt_of_mul-lt-mul_right, sub-eq-zero_of_le}
use native.Mathlib.Decide.{dec_le}
use native.Mathlib.Omega.{arith}
use lib.Dec.{lit≤}
use Rattle.laws.specs.Fraction.{Fraction, over}
use Rattle.laws.specs.Side.{Side, low, high, other}
use Rattle.quantity.specs.Component.{Component, red, green, blue, Pixel, weighted}
use Rattle.pixel.proofs.PixelLaws.{Floor, Mapped}
use Rattle.distance.proofs.FoundNumbers.{least_light, least_luminance, result_above, result_below, luminance_below, luminance_above}

-- fractions n / d of a pixel's results, near the mapped r: those of component i within s and s', those of the luminance within g and h
pub record Near (s g s' h p q : ℕ) (n : Side → Pixel) (d : Side → ℕ) (r : Pixel) (i : Component) : Type 0 where
  pub result_high : p * n high i ≤ q * (d high * (r i + s))
  pub luminance_low : p * ((weighted r - g) * d low) ≤ q * weighted (n low)
  pub result_low : p * ((r i - s') * d low) ≤ q * n low i
  pub luminance_high : p * weighted (n high) ≤ q * (d high * (weighted r + h))
  pub part : 593 * r i ≤ weighted r

-- how a light of u units is enclosed, in parts of a unit: from so many below u to so many above, and no wider than a unit
pub record Rounding : Type 0 where
  pub parts : ℕ
  pub pos : 0 < parts
  pub below : ℕ
  pub above : ℕ
  pub upward : below ≤ above
  pub narrow : below + above ≤ parts

abbrev pub end : Rounding → Side → ℕ → ℕ
end R low u = R.parts * u - R.below
end R high u = R.parts * u + R.above

abbrev pub around : Rounding → Side → ℕ → Fraction
around R s u = over (end R s u) R.parts R.pos

-- parts b enclose the bent light within the ratio of what encloses n, to which the brightest light m is mapped
pub record BentWithin (R : Rounding) (p q m n : ℕ) (b : Side → ℕ) : Type 0 where
  pub lower : p * end R low n ≤ q * b low
  pub upper : p * b high ≤ q * end R high n
  pub bent : n ≤ m
  pub seen : least_light ≤ n

-- ---- a weighted sum v of lights mapped to y, W the weights: 1 for a result, 10,000 for the luminance. R has z parts to a unit, a below and b above;
-- l and k are lower ends of m and n, o and u the sums of lower and of upper ends
module _ (R : Rounding) (p q m n W v y : ℕ) (three : 3 ≤ m) (below_m : n ≤ m) (most : y ≤ W * m) where
  abbrev z : ℕ
  z = R.parts

  abbrev a : ℕ
  a = R.below

  abbrev b : ℕ
  b = R.above

  within : b ≤ z
  within = omega (arith, R.narrow)

  sum_up : (t l u : ℕ) → p * t ≤ q * (z * n + b) → v ≤ W * m → z * m ≤ l + a → u ≤ z * v + W * b → v * n + W ≤ (y + W) * m
      → p * (u * t) ≤ q * (z * l * (y + 3 * W))
  sum_up t l u h hv hl hu f =
      le_trans (omega (arith, mul-le-mul_left u h)) (mul-le-mul_left q (le_trans (mul-le-mul_right (z * n + b) hu) (le_trans spread (room (v * n) f))))
    where
      spread : (z * v + W * b) * (z * n + b) ≤ z * z * (v * n) + 2 * (W * z * b * m) + W * b * b
      spread = omega (arith, mul-le-mul_left (z * b) hv, mul-le-mul_left (W * z * b) below_m)

      room : (c : ℕ) → c + W ≤ (y + W) * m → z * z * c + 2 * (W * z * b * m) + W * b * b ≤ z * l * (y + 3 * W)
      room c g = omega (
        arith,
        mul-le-mul_left (z * z) g,
        mul-le-mul_left (z * (y + 3 * W)) hl,
        mul-le-mul_left (z * a) most,
        mul-le-mul_left (W * z * a) three,
        mul-le-mul_left (W * z * m) R.narrow,
        mul-le-mul_left W (mul-le-mul within within),
      )

  sum_lo : (g t k o : ℕ) → 3 * W ≤ 2 * g → p * k ≤ q * t → z * n ≤ k + a → k ≤ z * m → z * v ≤ o + W * a → o ≤ W * (z * m) → y * m ≤ v * n
      → p * ((y - g) * (z * (z * m + b))) ≤ q * (o * t)
  sum_lo g t k o hg h hn hk hv ho f = le_trans (mul-le-mul_left p (go (dec_le y g))) (omega (arith, mul-le-mul_left o h))
    where
      spread : z * z * (y * m) ≤ o * k + 2 * (W * a * z * m) + W * a * a
      spread =
          le_trans (omega (arith, mul-le-mul_left (z * z) f)) (le_trans (mul-le-mul hv hn) (omega (arith, mul-le-mul_left a ho, mul-le-mul_left (W * a) hk)))

      room : (c e : ℕ) → e + g ≤ W * m → z * z * ((e + g) * m) ≤ c + 2 * (W * a * z * m) + W * a * a → e * (z * (z * m + b)) ≤ c
      room c e le s = omega (
        arith,
        mul-le-mul_left (z * b) le,
        mul-le-mul_left (z * z * m) hg,
        mul-le-mul_left (z * b) hg,
        mul-le-mul_left (W * z * m) R.narrow,
        mul-le-mul_left (W * z * m) R.upward,
        mul-le-mul_left W (mul-le-mul (le_trans R.upward within) R.upward),
      )

      go : Dec (y ≤ g) → (y - g) * (z * (z * m + b)) ≤ o * k
      go (yes h) = rw (sub-eq-zero_of_le h) (omega arith)
      go (no h) =
          let e : y ≡ y - g + g = omega arith in
          room (o * k) (y - g) (omega arith) (subst (λ x. z * z * (x * m) ≤ o * k + 2 * (W * a * z * m) + W * a * a) e spread)

-- ---- a mapped component is no more than the bent light, and the brightest is the bent light
pub mapped_le : {x n m r : ℕ} → 0 < m → x ≤ m → Floor x n m r → r ≤ n
mapped_le {x} {n} {m} {r} h a f = le_of_mul-le-mul_right {k = m} (omega (arith, f.below, mul-le-mul_right n a)) h

pub brightest_ge : {x n m r : ℕ} → 0 < m → x ≡ m → Floor x n m r → n ≤ r
brightest_ge {x} {n} {m} {r} h e f = let k : n < r + 1 = lt_of_mul-lt-mul_right m (omega (arith, f.above, ap (λ t. t * n) e)) in omega arith

-- over itself a light stays
pub unmapped : (x m r : ℕ) → 0 < m → Floor x m m r → r ≡ x
unmapped x m r h f =
    let a : r ≤ x = le_of_mul-le-mul_right {k = m} f.below h in
    let b : x < r + 1 = lt_of_mul-lt-mul_right m f.above in
    omega arith

-- a component's part of the luminance is 593 ten-thousandths of it or more
pub part_le : (r : Pixel) (i : Component) → 593 * r i ≤ weighted r
part_le r red = omega arith
part_le r green = omega arith
part_le r blue = omega arith

-- so the luminance has that part of the bent light
pub luminance_ge : {m n : ℕ} {x r : Pixel} → 0 < m → Mapped m n x r → 593 * n ≤ weighted r
luminance_ge {r = r} h P = let top = P.brightest in omega (arith, part_le r top.0, brightest_ge h top.1 (P.floors top.0))

-- ---- the results of a pixel from lights x enclosed so
abbrev pub numerators : Rounding → Pixel → (Side → ℕ) → Side → Pixel
numerators R x b s i = end R s (x i) * b s

abbrev pub denominators : Rounding → ℕ → Side → ℕ
denominators R m s = R.parts * end R (other s) m

module _ (R : Rounding) {p q m n : ℕ} {b : Side → ℕ} {x r : Pixel} (B : BentWithin R p q m n b) (P : Mapped m n x r) where
  pub brightest_pos : 0 < m
  brightest_pos = omega (arith, B.bent, B.seen)

  under : (i : Component) → r i ≤ n
  under i = mapped_le brightest_pos (P.inside i) (P.floors i)

  pub least : least_luminance ≤ weighted r
  least = omega (arith, luminance_ge brightest_pos P, B.seen)

  pub end_pos : (s : Side) → 0 < end R s m
  end_pos low = let two : 2 ≤ m = omega (arith, B.seen, B.bent) in omega (arith, mul-le-mul_left R.parts two, R.narrow, R.pos)
  end_pos high = omega (arith, mul-le-mul_left R.parts brightest_pos, R.pos)

  from : (u : ℕ) → R.parts * u ≤ end R low u + R.below
  from u = omega arith

  to : (u : ℕ) → u ≤ m → end R low u ≤ R.parts * m
  to u h = omega (arith, mul-le-mul_left R.parts h)

  ends : Side → ℕ
  ends s = weighted (λ j. end R s (x j))

  sum : (s : Side) → ends s * b s ≡ weighted (numerators R x b s)
  unfolding ends
  sum low = omega arith
  sum high = omega arith

  pub near : (i : Component) → Near result_above luminance_below result_below luminance_above p q (numerators R x b) (denominators R m) r i
  unfolding ends
  near i =
      let three : 3 ≤ m = omega (arith, B.bent, B.seen) in
      let light : weighted r ≤ 10000 * m = omega (arith, under red, under green, under blue, B.bent) in
      let heavy : weighted x ≤ 10000 * m = omega (arith, P.inside red, P.inside green, P.inside blue) in
      let lower : R.parts * weighted x ≤ ends low + 10000 * R.below = omega (arith, from (x red), from (x green), from (x blue)) in
      let inside : (j : Component) → end R low (x j) ≤ R.parts * m = λ j. to (x j) (P.inside j) in
      let f : (j : Component) → Floor (x j) n m (r j) = P.floors in
      let one = sum_up R p q m n 1 (x i) (r i) three B.bent (omega (arith, under i, B.bent)) in
      record {
        result_high = one (b high) (end R low m) (end R high (x i)) B.upper (omega (arith, P.inside i)) (from m) (omega arith) (omega (arith, (f i).above));
        luminance_low =
            subst (λ t. p * ((weighted r - luminance_below) * denominators R m low) ≤ q * t) (sum low)
            (sum_lo R p q m n 10000 (weighted x) (weighted r) three B.bent light luminance_below (b low) (end R low n) (ends low) (lit≤ tt) B.lower
            (from n) (to n B.bent) lower (omega (arith, inside red, inside green, inside blue))
            (omega (arith, (f red).below, (f green).below, (f blue).below)));
        result_low =
            sum_lo R p q m n 1 (x i) (r i) three B.bent (omega (arith, under i, B.bent)) result_below (b low) (end R low n) (end R low (x i)) (lit≤ tt)
            B.lower (from n) (to n B.bent) (omega (arith, from (x i))) (omega (arith, inside i)) (f i).below;
        luminance_high =
            subst (λ t. p * t ≤ q * (denominators R m high * (weighted r + luminance_above))) (sum high)
            (sum_up R p q m n 10000 (weighted x) (weighted r) three B.bent light (b high) (end R low m) (ends high) B.upper heavy (from m) (omega arith)
            (omega (arith, (f red).above, (f green).above, (f blue).above)));
        part = part_le r i;
      }
