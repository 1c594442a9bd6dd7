-- The bent light of a pixel whose X is at a position, or between it and the next, enclosed: by what encloses the light there where the curve doesn't
-- bend it, else by the lights of points, within a ratio. Then of one whose X is the signal of an index of the light table, in both ways within the ratio.
use mathlib.Core.Path.{◌≡◌, refl, ◌∙◌, ap, subst}
use mathlib.Core.Logic.{◌⊎◌, inl, inr}
use Prim.Native.Nat.{ℕ, pred, min, ◌+◌, ◌-◌, ◌*◌, ◌≤◌, ◌<◌}
use native.Mathlib.Nat.{le_refl, lt_of_not-le}
use native.Mathlib.Decide.{dec_le}
use native.Mathlib.Omega.{arith}
use Rattle.laws.specs.Fraction.{Fraction, over, whole, ◌≼◌}
use Rattle.laws.specs.Side.{Side, low, high, Bounds}
use Rattle.laws.proofs.SideLaws.{at_refl}
use Rattle.quantity.specs.Units.{units, thousand, last_position}
use Rattle.quantity.specs.Component.{Component, Pixel, brightest}
use Rattle.pq.specs.Pq.{position_signal, ValueAtLeast}
use Rattle.pq.specs.LightTable.{light_table, light_entry}
use Rattle.pq.proofs.PqLaws.{at_most_light, at_least_light}
use Rattle.pq.proofs.EntryLaws.{entries_grow}
use Rattle.position.specs.Position.{light_at, position_of}
use Rattle.position.proofs.LightLaws.{light_grows, light_at_entry}
use Rattle.position.proofs.PositionLaws.{position_is}
use Rattle.position.proofs.PeakLaws.{thousand_position, peak_past}
use Rattle.peaks.proofs.PeakSignals.{peak_between, thousand_low, thousand_high}
use Rattle.bent_lights.proofs.FoundNumbers.{points_apart, first_point_cell, last_point_cell}
use Rattle.bent_lights.proofs.PointLights.{point_before, point_after, held}
use Rattle.eetf.specs.Curve.{knee_curve, bent_light}
use Rattle.eetf.proofs.SplineLaws.{curve, curve_stays, knee_curve_light}
use Rattle.eetf.proofs.CurveLaws.{unbent, bent_by_curve, bent_le_self, bent_le_thousand}
use Rattle.exact.specs.ExactValue.{Value, Light, Given, Ends, BentSignal, BentLight}
use Rattle.distance.proofs.FoundNumbers.{least_light, ratio_under, ratio_over, positions_off, knee_halves, thousand_at, least_bent}
use Rattle.distance.proofs.NearLaws.{end, around, BentWithin}
use Rattle.distance.proofs.LightLaws.{entries, light_low, light_high}
use Rattle.distance.proofs.BentSignalLaws.{Around, ends_around, are_around, straight, bent_low, bent_high, bent_range}
use Rattle.distance.proofs.BentLightTests.{reach, slow_light}

-- ---- a peak above 1,000: t is the position of 1,000 cd/m2, w the peak's position
module _ (peak : ℕ) (more : 1000 < peak) (most : peak ≤ 10000) where
  abbrev pub w : ℕ
  w = position_of (peak * units)

  pub far : thousand_at + 98 ≤ w
  far = peak_past peak more

  pub last : w ≤ 897024
  unfolding last_position
  last = (position_is (peak * units)).range

  pub near : w ≤ 3 * thousand_at
  near = omega (arith, last)

  pub up : thousand_at < w
  up = omega (arith, far)

  before : pred w ≡ w - 1
  before = omega arith

  -- J lies from t to t + 1, H from w - 1 to w + 2
  pub ends : Ends peak
  unfolding Value
  ends =
      ends_around peak thousand_at w far thousand_low thousand_high
      (subst (λ q. ValueAtLeast (whole (peak * units)) (position_signal q)) before (peak_between peak more most).low) (peak_between peak more most).high

  pub stand : Around ends thousand_at w
  unfolding ends
  stand = are_around peak thousand_at w far _ _ _ _

  -- the bent light from X's fraction x, the bent signal v and its light l
  pub bent_by : (G : Given) (s : Side) (x v : ℕ) (l : Fraction) → G.X s (position_signal x) → BentSignal s ends (min x (ends.H s)) v
      → Light s (position_signal v) l → BentLight G s peak l
  unfolding BentLight ends
  bent_by G s x v l a b h = inr (more, inr record { ends = ends; x = x; at = a; v = v; bent = b; light = h })

  -- or, where X's upper fraction x lies surely below the knee, from a brightest light l
  pub straight_by : (G : Given) (s : Side) (x : ℕ) (l : Fraction) → G.X high (position_signal x) → 2 * x + 2 + w < 3 * thousand_at
      → G.Most s l → BentLight G s peak l
  unfolding BentLight ends
  straight_by G s x l a b h = inr (more, inl record { ends = ends; x = x; at = a; below = omega arith; light = h })

  -- X is at the position m, or between it and the next
  pub by_self : (G : Given) (s : Side) (m x : ℕ) (l : Fraction) → 2 * m + knee_halves + w ≤ 3 * thousand_at → x ≤ m + 1 → G.X s (position_signal x)
      → Light s (position_signal x) l → BentLight G s peak l
  by_self G s m x l h k a c = bent_by G s x x l a (straight ends thousand_at w stand far near s m x h k) c

  -- what the light at m is mapped to is the light at the curve's position
  abbrev pub bent_at : ℕ → ℕ
  bent_at m = curve thousand_at w m

  pub to_light : (m : ℕ) → bent_light peak (light_at m) m ≡ light_at (bent_at m)
  unfolding light_at
  to_light m =
      bent_by_curve peak (light_at m) m more
      ∙ ap (λ t. knee_curve light_entry t (position_of (peak * units)) (light_at m) m) thousand_position
      ∙ knee_curve_light thousand_at w up near light_entry m

  pub stays : (m : ℕ) → 2 * m + knee_halves + w ≤ 3 * thousand_at → bent_light peak (light_at m) m ≡ light_at m
  stays m h = to_light m ∙ ap light_at (curve_stays thousand_at w up near m (omega arith))

  -- from there on
  module _ (m : ℕ) (h : 3 * thousand_at < 2 * m + knee_halves + w) where
    bends : 3 * thousand_at < 2 * min m w + knee_halves + w
    bends = omega (arith, far, h)

    pub range : (least_bent ≤ bent_at m) × (bent_at m ≤ thousand_at)
    range = bent_range w m (omega (arith, far)) last bends

    pub by_low : (G : Given) (x : ℕ) (l : Fraction) → m ≤ x → G.X low (position_signal x)
        → Light low (position_signal (bent_at m - positions_off)) l → BentLight G low peak l
    by_low G x l k a c =
        bent_by G low x (bent_at m - positions_off) l a (bent_low ends thousand_at w stand far near m x (bent_at m - positions_off) bends k
        (omega (arith, range))) c

    pub by_high : (G : Given) (x : ℕ) (l : Fraction) → x ≤ m + 1 → G.X high (position_signal x)
        → Light high (position_signal (bent_at m + positions_off)) l → BentLight G high peak l
    by_high G x l k a c =
        bent_by G high x (bent_at m + positions_off) l a (bent_high ends thousand_at w stand far near m x (bent_at m + positions_off) bends k (le_refl _)) c

-- up to 1,000 cd/m2, or so many half positions below the knee, the curve leaves the light
abbrev pub Left : (peak m : ℕ) → Type 0
Left peak m = (peak ≤ 1000) ⊎ (2 * m + knee_halves + position_of (peak * units) ≤ 3 * thousand_at)

pub left_is : (peak m : ℕ) → peak ≤ 10000 → Left peak m → bent_light peak (light_at m) m ≡ min (light_at m) thousand
left_is peak m most c = go (dec_le peak 1000) c
  where
    go : Dec (peak ≤ 1000) → Left peak m → bent_light peak (light_at m) m ≡ min (light_at m) thousand
    go (yes h) c = unbent peak (light_at m) m h
    go (no h) (inl g) = absurd (h g)
    go (no h) (inr g) = omega (arith, stays peak (omega arith) most m g, bent_le_thousand peak m)

-- so many parts of a unit
abbrev pub in_parts : ℕ → Fraction
in_parts u = over u entries.parts entries.pos

-- parts of units on both sides of the bent light, within a ratio of what the brightest light is mapped to
pub record Enclosure (p q : ℕ) (G : Given) (peak m : ℕ) : Type 0 where
  pub b : Side → ℕ
  pub lights : (s : Side) → BentLight G s peak (in_parts (b s))
  pub within : BentWithin entries p q (light_at m) (bent_light peak (light_at m) m) b

-- the lights at the points around a position, and what lies beyond them, enclose that of its signal
pub point_low : (q : ℕ) (l : Fraction) → 256 * first_point_cell + points_apart ≤ q → q + points_apart < 256 * (last_point_cell + 1)
    → l ≼ whole (light_at (point_before q)) → Light low (position_signal q) l
unfolding Light Value
point_low q l from to h = inr (at_most_light (held q from to).below h)

pub point_high : (q : ℕ) (l : Fraction) → 256 * first_point_cell + points_apart ≤ q → q + points_apart < 256 * (last_point_cell + 1)
    → whole (light_at (point_after q)) ≼ l → Light high (position_signal q) l
unfolding Light Value
point_high q l from to h = inr (at_least_light (held q from to).above h)

pub thousand_ge : 1000 ≤ thousand
unfolding thousand units
thousand_ge = omega arith

pub second_entry : light_entry 1 ≡ least_light
unfolding light_entry light_table
second_entry = refl

-- ---- a pixel that gives G: its brightest light is that of X, whose fractions x are the position m, the next, or between them
pub record Placed (G : Given) (m : ℕ) : Type 0 where
  pub x : Side → ℕ
  pub from : m ≤ x low
  pub to : (s : Side) → x s ≤ m + 1
  pub signal : (s : Side) → G.X s (position_signal (x s))
  pub most : (s : Side) (l : Fraction) → Light s (position_signal (x s)) l → G.Most s l

module _ {G : Given} {m : ℕ} (P : Placed G m) (peak : ℕ) (most : peak ≤ 10000) where
  abbrev n : ℕ
  n = bent_light peak (light_at m) m

  -- where ends e enclose every light, and those of the light at m the light of X, those of n enclose the bent light
  pub left_lights : (e : Side → ℕ → ℕ) → ((u v : ℕ) → u ≤ v → e low u ≤ e low v)
      → ((u : ℕ) → (e low u ≤ entries.parts * u) × (entries.parts * u ≤ e high u))
      → ((s : Side) (l : Fraction) → Bounds s l (in_parts (e s (light_at m))) → Light s (position_signal (P.x s)) l)
      → Left peak m → (s : Side) → BentLight G s peak (in_parts (e s n))
  unfolding BentLight
  left_lights e grows encloses own c = go (dec_le peak 1000) c
    where
      up_to : peak ≤ 1000 → n ≡ min (light_at m) thousand → (s : Side) → Dec (thousand ≤ light_at m) → BentLight G s peak (in_parts (e s n))
      up_to h is low d =
          inl (h, (omega (arith, is, encloses n), P.most low (in_parts (e low n)) (own low _ (omega (arith, grows n (light_at m) (omega (arith, is)))))))
      up_to h is high (yes g) = inl (h, inl (omega (arith, is, encloses n)))
      up_to h is high (no g) =
          let same : n ≡ light_at m = omega (arith, is) in
          let reaches : Bounds high (in_parts (e high n)) (in_parts (e high (light_at m))) = rw same (at_refl high _) in
          inl (h, inr (P.most high (in_parts (e high n)) (own high _ reaches)))

      go : Dec (peak ≤ 1000) → Left peak m → (s : Side) → BentLight G s peak (in_parts (e s n))
      go (yes h) d s = up_to h (left_is peak m most c) s (dec_le thousand (light_at m))
      go (no h) (inl g) s = absurd (h g)
      go (no h) (inr g) s =
          let above : 1000 < peak = omega arith in
          by_self peak above most G s m (P.x s) (in_parts (e s n)) g (P.to s) (P.signal s)
          (own s _ (subst (λ l. Bounds s (in_parts (e s n)) (in_parts (e s l))) (stays peak above most m g) (at_refl s _)))

  -- from there on the curve's light, by the points around its ends; s is the bent position
  pub curve_lights : 1000 < peak → 3 * thousand_at < 2 * m + knee_halves + position_of (peak * units) → Enclosure ratio_under ratio_over G peak m
  curve_lights above h = record { b = b; lights = side; within = record { lower = lower; upper = upper; bent = bent_le_self peak m; seen = seen } }
    where
      s : ℕ
      s = bent_at peak above most m

      r : (least_bent ≤ s) × (s ≤ thousand_at)
      r = range peak above most m h

      is : n ≡ light_at s
      is = to_light peak above most m

      j : ℕ
      j = point_before (s - positions_off)

      i : ℕ
      i = point_after (s + positions_off)

      b : Side → ℕ
      b low = entries.parts * light_at j
      b high = entries.parts * light_at i

      side : (e : Side) → BentLight G e peak (in_parts (b e))
      side low =
          by_low peak above most m h G (P.x low) _ P.from (P.signal low)
          (point_low (s - positions_off) _ (omega (arith, r)) (omega (arith, r)) (record { cross = omega arith }))
      side high =
          by_high peak above most m h G (P.x high) _ (P.to high) (P.signal high)
          (point_high (s + positions_off) _ (omega (arith, r)) (omega (arith, r)) (record { cross = omega arith }))

      lower : ratio_under * end entries low n ≤ ratio_over * (entries.parts * light_at j)
      lower = omega (arith, is, light_grows s (j + reach) (omega arith), slow_light j (omega (arith, r)) (omega (arith, r)))

      upper : ratio_under * (entries.parts * light_at i) ≤ ratio_over * end entries high n
      upper = omega (arith, is, light_grows i (s + reach) (omega arith), slow_light s (omega (arith, r)) (omega (arith, r)))

      seen : least_light ≤ n
      seen = omega (arith, is, light_grows (256 * 1) s (omega (arith, r)), light_at_entry 1, second_entry)

-- ---- a pixel of lights x that gives G: X is the signal of the position m of an index, and the brightest light is that of X
pub record Indexed (G : Given) (x : Pixel) (m : ℕ) : Type 0 where
  pub k : ℕ
  pub at : m ≡ 256 * k
  pub some : 0 < k
  pub range : k ≤ 3504
  pub seen : 0 < G.level
  pub lit : brightest x ≡ light_at m
  pub signal : (s : Side) → G.X s (position_signal m)
  pub own : (s : Side) (i : Component) → G.Own s i (around entries s (x i))
  pub most : (s : Side) (l : Fraction) → Light s (position_signal m) l → G.Most s l

module _ {G : Given} {x : Pixel} {m : ℕ} (I : Indexed G x m) (peak : ℕ) (most : peak ≤ 10000) where
  abbrev placed : Placed G m
  placed = record { x = λ s. m; from = le_refl m; to = λ s. omega arith; signal = I.signal; most = I.most }

  at_entry : light_at m ≡ light_entry I.k
  at_entry = ap light_at I.at ∙ light_at_entry I.k

  pub lit_light_lem : least_light ≤ light_at m
  lit_light_lem = omega (arith, at_entry, second_entry, entries_grow 1 I.k I.some)

  -- the light of X
  pub own_light : (s : Side) (l : Fraction) → Bounds s l (around entries s (light_at m)) → Light s (position_signal m) l
  own_light low l c =
      light_low I.k l I.some I.range (record { cross = omega (arith, I.at) }) (subst (λ e. l ≼ around entries low e) at_entry (record { cross = c }))
  own_light high l c =
      light_high I.k l I.range (record { cross = omega (arith, I.at) }) (subst (λ e. around entries high e ≼ l) at_entry (record { cross = c }))

  left : Left peak m → Enclosure ratio_under ratio_over G peak m
  left c =
      let seen : least_light ≤ bent_light peak (light_at m) m = omega (arith, left_is peak m most c, lit_light_lem, thousand_ge) in
      record {
        b = λ s. end entries s (bent_light peak (light_at m) m);
        lights = left_lights placed peak most (end entries) (λ u v h. omega arith) (λ u. (omega arith, omega arith)) own_light c;
        within = record { lower = omega arith; upper = omega arith; bent = bent_le_self peak m; seen = seen };
      }

  -- bent or not
  pub enclosure : Enclosure ratio_under ratio_over G peak m
  enclosure = go (dec_le peak 1000) (dec_le (2 * m + knee_halves + position_of (peak * units)) (3 * thousand_at))
    where
      go : Dec (peak ≤ 1000) → Dec (2 * m + knee_halves + position_of (peak * units) ≤ 3 * thousand_at) → Enclosure ratio_under ratio_over G peak m
      go (yes h) c = left (inl h)
      go (no h) (yes g) = left (inr g)
      go (no h) (no g) = curve_lights placed peak most (lt_of_not-le h) (lt_of_not-le g)
