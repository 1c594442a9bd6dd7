-- A pixel of enclosed lights whose X lies from a position to the next: its bent light, by what encloses the light there where the curve leaves it, else
-- by entries of the light table; and its results. Lights in units, the bent light's ends in halves.
use mathlib.Core.Path.{subst}
use mathlib.Core.Logic.{inl, inr}
use Prim.Native.Nat.{ℕ, ◌+◌, ◌*◌, ◌≤◌, ◌<◌}
use native.Mathlib.Nat.{le_refl, mul-pos}
use native.Mathlib.Decide.{dec_le}
use native.Mathlib.Omega.{arith}
use Rattle.laws.specs.Fraction.{Fraction, whole}
use Rattle.laws.specs.Side.{Side, low, high, other, At, Bounds}
use Rattle.laws.proofs.SideLaws.{at_refl}
use Rattle.quantity.specs.Units.{units}
use Rattle.quantity.specs.Component.{Component, Pixel}
use Rattle.pq.specs.Pq.{position_signal}
use Rattle.position.specs.Position.{light_at, position_of}
use Rattle.full_range.proofs.FullRangeTests.{beside, Held}
use Rattle.eetf.specs.Curve.{bent_light}
use Rattle.eetf.proofs.CurveLaws.{bent_le_self}
use Rattle.exact.specs.ExactValue.{Light, Given, BentLight}
use Rattle.distance.proofs.FoundNumbers.{first_light, lit_light, knee_halves, thousand_at}
use Rattle.distance.proofs.PixelDistance.{Results}
use Rattle.distance.proofs.LightLaws.{entries}
use Rattle.distance.proofs.BentLightLaws.{in_parts, Placed, Left, left_is, left_lights, curve_lights}
use Rattle.distance.proofs.BentLightLaws.{thousand_ge, bent_at, to_light, range}
use Rattle.distance.proofs.FirstCodes.{twelve, lit_ge}
use Rattle.distance.proofs.FullRangeCodes.{from_to, held_light}
use Rattle.distance.proofs.FullRangeNear.{BentBeside, numerators, denominators}

-- a pixel of lights x that gives G: each is enclosed, and the brightest, that of X, is enclosed by the light at m
pub record Beside (G : Given) (x : Pixel) (m : ℕ) : Type 0 where
  pub held : Held (light_at m) m
  pub seen : 0 < G.level
  pub some : first_light ≤ light_at m
  pub signal : (s : Side) → G.X s (position_signal (from_to s m))
  pub own : (s : Side) (i : Component) → G.Own s i (whole (beside s (x i)))
  pub most : (s : Side) (l : Fraction) → Light s (position_signal (from_to s m)) l → G.Most s l

-- ends b of the bent light of a lit pixel, under some peak
pub record EnclosureBeside (G : Given) (peak m : ℕ) : Type 0 where
  pub b : Side → ℕ
  pub lights : (s : Side) → BentLight G s peak (in_parts (b s))
  pub within : BentBeside (light_at m) (bent_light peak (light_at m) m) b

module _ {G : Given} {x : Pixel} {m : ℕ} (I : Beside G x m) where
  abbrev placed : Placed G m
  placed = record { x = λ s. from_to s m; from = le_refl m; to = elim [ low ↦ omega arith | high ↦ le_refl (m + 1) ]; signal = I.signal; most = I.most }

  own_halves : (s : Side) (l : Fraction) → Bounds s l (in_parts (entries.parts * beside s (light_at m))) → Light s (position_signal (from_to s m)) l
  own_halves low l c = held_light I.held low l (omega arith)
  own_halves high l c = held_light I.held high l (omega arith)

  most_pos : (s : Side) → 0 < beside s (light_at m)
  most_pos low = omega (arith, I.some)
  most_pos high = omega (arith, I.some)

  -- its results, from ends b of the bent light
  pub results : (peak : ℕ) (b : Side → ℕ) → ((s : Side) → BentLight G s peak (in_parts (b s))) → Results G peak (numerators x b) (denominators (light_at m))
  results peak b bent =
      record {
        seen = I.seen;
        pos = λ s. mul-pos entries.pos (most_pos (other s));
        results = λ s i. record {
          own = whole (beside s (x i));
          own_light = I.own s i;
          bent = in_parts (b s);
          bent_light = bent s;
          most = whole (beside (other s) (light_at m));
          most_light = I.most (other s) (whole (beside (other s) (light_at m))) (held_light I.held (other s) _ (at_refl (other s) _));
          some = most_pos (other s);
          bounds = cancel s (beside s (x i)) (b s) (beside (other s) (light_at m)) entries.parts;
        };
      }
    where
      cancel : (s : Side) (o t e z : ℕ) → At s (o * t * e * (1 * z)) (o * t * (z * e * 1))
      cancel s o t e z = subst (λ k. At s k (o * t * (z * e * 1))) (omega arith) (at_refl s (o * t * (z * e * 1)))

  module _ (peak : ℕ) (most : peak ≤ 10000) where
    abbrev n : ℕ
    n = bent_light peak (light_at m) m

    -- ends of the bent light where the curve leaves it
    pub left : Left peak m → (s : Side) → BentLight G s peak (in_parts (entries.parts * beside s n))
    left = left_lights placed peak most (λ s u. entries.parts * beside s u) (λ u v h. omega arith) (λ u. (omega arith, omega arith)) own_halves

    -- and anywhere, from the fourth code of twelve bits on
    pub enclosure : twelve 4 ≤ m → EnclosureBeside G peak m
    enclosure h = go (dec_le peak 1000) (dec_le (2 * m + knee_halves + position_of (peak * units)) (3 * thousand_at))
      where
        by_left : Left peak m → EnclosureBeside G peak m
        by_left c =
            let seen : lit_light ≤ n = omega (arith, left_is peak m most c, lit_ge m h, thousand_ge) in
            record {
              b = λ s. entries.parts * beside s n;
              lights = left c;
              within = record { lower = omega arith; upper = omega arith; bent = bent_le_self peak m; seen = seen };
            }

        go : Dec (peak ≤ 1000) → Dec (2 * m + knee_halves + position_of (peak * units) ≤ 3 * thousand_at) → EnclosureBeside G peak m
        go (yes a) c = by_left (inl a)
        go (no a) (yes c) = by_left (inr c)
        go (no a) (no c) =
            let above : 1000 < peak = omega arith in
            let past : 3 * thousand_at < 2 * m + knee_halves + position_of (peak * units) = omega arith in
            let E = curve_lights placed peak most above past in
            let lit = lit_ge (bent_at peak above most m) (omega (arith, range peak above most m past)) in
            record {
              b = E.b;
              lights = E.lights;
              within = record {
                lower = omega (arith, E.within.lower);
                upper = omega (arith, E.within.upper);
                bent = E.within.bent;
                seen = omega (arith, to_light peak above most m, lit);
              };
            }
