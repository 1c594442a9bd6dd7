-- The fractions of a lit full-range pixel lie near its mapped numbers: from lights, the bent light among them, enclosed within a part of themselves and
-- some units. All lights in units, the bent light's ends in halves.
use mathlib.Core.Path.{◌≡◌, ap, subst}
use Prim.Native.Nat.{ℕ, ◌+◌, ◌-◌, ◌*◌, ◌≤◌, ◌<◌}
use native.Mathlib.Nat.{mul-le-mul, mul-le-mul_left, mul-le-mul_right, sub-eq-zero_of_le}
use native.Mathlib.Decide.{dec_le}
use native.Mathlib.Omega.{arith}
use lib.Dec.{lit≤}
use Rattle.laws.specs.Side.{Side, low, high, other}
use Rattle.quantity.specs.Component.{Component, red, green, blue, Pixel, weighted}
use Rattle.pixel.proofs.PixelLaws.{Floor, Mapped}
use Rattle.full_range.proofs.FoundNumbers.{light_part, units_below, units_above}
use Rattle.full_range.proofs.FullRangeTests.{less, more, beside}
use Rattle.distance.proofs.FoundNumbers.{lit_light, lit_luminance, full_result_above, full_result_below}
use Rattle.distance.proofs.FoundNumbers.{full_luminance_below, full_luminance_above, full_ratio_under, full_ratio_over}
use Rattle.distance.proofs.NearLaws.{Near, mapped_le, part_le, luminance_ge}
use Rattle.distance.proofs.LightLaws.{entries}

-- what is below a light lies so many units off it at most, and a part; the part is rounded down
abbrev pub units_off : ℕ
units_off = units_below + 1

less_ge : (l : ℕ) → (light_part - 1) * (l - units_off) ≤ light_part * less l
less_ge l = omega arith

more_le : (l : ℕ) → light_part * more l ≤ (light_part + 1) * (l + units_above)
more_le l = omega arith

-- halves b enclose the bent light so about n, to which the brightest light m is mapped
pub record BentBeside (m n : ℕ) (b : Side → ℕ) : Type 0 where
  pub lower : (light_part - 1) * (entries.parts * (n - units_off)) ≤ light_part * b low
  pub upper : light_part * b high ≤ (light_part + 1) * (entries.parts * (n + units_above))
  pub bent : n ≤ m
  pub seen : lit_light ≤ n

-- ---- the units alone, of a weighted sum v of lights mapped to y, W the weights: 1 for a result, 10,000 for the luminance. They take 43/2 of the weights
-- above and 25 below
sum_up : (m n W v y g : ℕ) → lit_light ≤ m → n ≤ m → v ≤ W * m → y ≤ W * m → 43 * W ≤ 2 * g → v * n + W ≤ (y + W) * m
    → (v + W * units_above) * (n + units_above) ≤ (m - units_off) * (y + g)
sum_up m n W v y g lit below hv hy hg f = go (m - units_off) (omega arith)
  where
    go : (k : ℕ) → m ≡ k + units_off → (v + W * units_above) * (n + units_above) ≤ k * (y + g)
    go k e = omega (
      arith,
      ap (λ t. y * t) e,
      ap (λ t. W * t) e,
      mul-le-mul_left W lit,
      mul-le-mul_left W below,
      mul-le-mul_left k hg,
    )

sum_lo : (m n W v o y g : ℕ) → units_off ≤ n → n ≤ m → v ≤ W * m → y ≤ W * m → 25 * W ≤ g → v ≤ o + W * units_off → y * m ≤ v * n
    → (y - g) * (m + units_above) ≤ o * (n - units_off)
sum_lo m n W v o y g some below hv hy hg ho f = go (dec_le y g)
  where
    spread : (e l : ℕ) → y ≡ e + g → n ≡ l + units_off → e * (m + units_above) ≤ o * l
    spread e l p q = omega (
      arith,
      ap (λ t. t * m) p,
      ap (λ t. v * t) q,
      mul-le-mul_left l ho,
      mul-le-mul_left W below,
      ap (λ t. W * t) q,
      mul-le-mul_left m hg,
    )

    go : Dec (y ≤ g) → (y - g) * (m + units_above) ≤ o * (n - units_off)
    go (yes p) = rw (sub-eq-zero_of_le p) (omega arith)
    go (no p) = spread (y - g) (n - units_off) (omega arith) (omega arith)

-- ---- with the parts of three lights, which together are less than the ratio of full range
with_ratio_up : (k a b c hi bh ml : ℕ) → light_part * hi ≤ (light_part + 1) * a → light_part * bh ≤ (light_part + 1) * (entries.parts * b)
    → (light_part - 1) * k ≤ light_part * ml → a * b ≤ k * c → full_ratio_under * (hi * bh) ≤ full_ratio_over * (entries.parts * ml * c)
with_ratio_up k a b c hi bh ml h g m f = omega (arith, mul-le-mul h g, f, mul-le-mul_right c m)

with_ratio_lo : (m w l e lo bl mh : ℕ) → (light_part - 1) * w ≤ light_part * lo → (light_part - 1) * (entries.parts * l) ≤ light_part * bl
    → light_part * mh ≤ (light_part + 1) * m → e * m ≤ w * l → full_ratio_under * (e * (entries.parts * mh)) ≤ full_ratio_over * (lo * bl)
with_ratio_lo m w l e lo bl mh h g k f = omega (arith, mul-le-mul h g, f, mul-le-mul_left e k)

-- ---- the results of a pixel from lights x enclosed so
abbrev pub numerators : Pixel → (Side → ℕ) → Side → Pixel
numerators x b s i = beside s (x i) * b s

abbrev pub denominators : ℕ → Side → ℕ
denominators m s = entries.parts * beside (other s) m

module _ {m n : ℕ} {b : Side → ℕ} {x r : Pixel} (B : BentBeside m n b) (P : Mapped m n x r) where
  pos : 0 < m
  pos = omega (arith, B.seen, B.bent)

  under : (i : Component) → r i ≤ n
  under i = mapped_le pos (P.inside i) (P.floors i)

  pub lit_luminance_lem : lit_luminance ≤ weighted r
  lit_luminance_lem = omega (arith, luminance_ge pos P, B.seen)

  -- on either side, the ends of such a sum being u and o
  sum_high : (W v y g u : ℕ) → light_part * u ≤ (light_part + 1) * (v + W * units_above) → v ≤ W * m → y ≤ W * m → 43 * W ≤ 2 * g
      → v * n + W ≤ (y + W) * m → full_ratio_under * (u * b high) ≤ full_ratio_over * (denominators m high * (y + g))
  sum_high W v y g u hu hv hy hg f =
      with_ratio_up (m - units_off) (v + W * units_above) (n + units_above) (y + g) u (b high) (less m) hu B.upper (less_ge m)
      (sum_up m n W v y g (omega (arith, B.seen, B.bent)) B.bent hv hy hg f)

  sum_low : (W v w y g o : ℕ) → (light_part - 1) * w ≤ light_part * o → v ≤ w + W * units_off → v ≤ W * m → y ≤ W * m → 25 * W ≤ g
      → y * m ≤ v * n → full_ratio_under * ((y - g) * denominators m low) ≤ full_ratio_over * (o * b low)
  sum_low W v w y g o ho hw hv hy hg f =
      with_ratio_lo (m + units_above) w (n - units_off) (y - g) o (b low) (more m) ho B.lower (more_le m)
      (sum_lo m n W v w y g (omega (arith, B.seen)) B.bent hv hy hg hw f)

  sums : (s : Side) → weighted (λ j. beside s (x j)) * b s ≡ weighted (numerators x b s)
  sums low = omega arith
  sums high = omega arith

  pub near : (i : Component) → Near full_result_above full_luminance_below full_result_below full_luminance_above full_ratio_under full_ratio_over
      (numerators x b) (denominators m) r i
  near i =
      let f : (j : Component) → Floor (x j) n m (r j) = P.floors in
      let light : weighted r ≤ 10000 * m = omega (arith, under red, under green, under blue, B.bent) in
      let heavy : weighted x ≤ 10000 * m = omega (arith, P.inside red, P.inside green, P.inside blue) in
      record {
        result_high =
            sum_high 1 (x i) (r i) full_result_above (more (x i)) (more_le (x i)) (omega (arith, P.inside i)) (omega (arith, under i, B.bent)) (lit≤ tt)
            (omega (arith, (f i).above));
        luminance_low =
            subst (λ t. full_ratio_under * ((weighted r - full_luminance_below) * denominators m low) ≤ full_ratio_over * t) (sums low)
            (sum_low 10000 (weighted x) (weighted (λ j. x j - units_off)) (weighted r) full_luminance_below (weighted (λ j. less (x j)))
            (omega (arith, less_ge (x red), less_ge (x green), less_ge (x blue))) (omega arith) heavy light (lit≤ tt)
            (omega (arith, (f red).below, (f green).below, (f blue).below)));
        result_low =
            sum_low 1 (x i) (x i - units_off) (r i) full_result_below (less (x i)) (less_ge (x i)) (omega arith) (omega (arith, P.inside i))
            (omega (arith, under i, B.bent)) (lit≤ tt) (f i).below;
        luminance_high =
            subst (λ t. full_ratio_under * t ≤ full_ratio_over * (denominators m high * (weighted r + full_luminance_above))) (sums high)
            (sum_high 10000 (weighted x) (weighted r) full_luminance_above (weighted (λ j. more (x j)))
            (omega (arith, more_le (x red), more_le (x green), more_le (x blue))) heavy light (lit≤ tt)
            (omega (arith, (f red).above, (f green).above, (f blue).above)));
        part = part_le r i;
      }
