-- The exact value of an HLG code before any rounding or table (scope, The exact value), enclosed stage by stage: what serves as a lower (`low`) or
-- an upper (`high`) fraction of a stage is said by that stage's inequality at the unfavourable fractions of what goes into it. Light is in units.
-- "x, of .." above a definition says that x is a fraction of that quantity, on the side s.
use Rattle.std.specs.Prelude.{◌≡◌, ◌⊎◌, ℕ, min, ◌+◌, ◌-◌, ◌*◌, ◌^◌, ◌≤◌, ◌<◌}
use Rattle.std.proofs.Common.{zero-lt-suc, arith}
use Rattle.laws.specs.Fraction.{Fraction, over, whole, ◌·◌, ◌↑◌}
use Rattle.laws.specs.Side.{Side, low, high, other, At, Bounds}
use Rattle.quantity.specs.Units.{units, thousand}
use Rattle.quantity.specs.declared.sample_format.SampleFormat.{SampleFormat}
use Rattle.quantity.specs.Component.{Component, Pixel, brightest, weighted}
use Rattle.pq.specs.Pq.{ValueAtMost, ValueAtLeast}
use Rattle.position.specs.Code.{code_signal}
use Rattle.hlg_steps.specs.Signal.{HlgSignal}
use Rattle.hlg_steps.specs.Steps.{scene}

-- x, of the PQ value of a light l
unfoldable pub Value : Side → Fraction → Fraction → Type 0
Value low l x = ValueAtLeast l x
Value high l x = ValueAtMost l x

-- l, of the light of a PQ signal x: the light whose PQ value is x; the signal 0 has the light 0
unfoldable pub Light : Side → Fraction → Fraction → Type 0
Light s x l = ((x.num ≡ 0) × (l.num ≡ 0)) ⊎ Value (other s) l x

-- what a pixel gives: fractions of each component's light, of the brightest light and of its PQ signal X; the level is 0 just in a black pixel
pub record Given : Type 1 where
  pub Own : Side → Component → Fraction → Type 0
  pub Most : Side → Fraction → Type 0
  pub X : Side → Fraction → Type 0
  pub level : ℕ

-- codes of a depth and range give PQ signals, unrounded (request 06); X is that of the brightest code
abbrev pub of_codes : SampleFormat → Pixel → Given
of_codes f p =
    record {
      Own = λ s i l. Light s (code_signal f (p i)) l;
      Most = λ s l. Light s (code_signal f (brightest p)) l;
      X = λ s x. Bounds s x (code_signal f (brightest p));
      level = (code_signal f (brightest p)).num;
    }

-- lights v / z are given themselves, before any whole part is taken (request 11); X is the PQ value of the brightest, of which fractions alone are known
abbrev pub of_lights : (v : Pixel) (z : ℕ) → 0 < z → Given
of_lights v z pos =
    record {
      Own = λ s i l. Bounds s l (over (v i) z pos);
      Most = λ s l. Bounds s l (over (brightest v) z pos);
      X = λ s x. Value s (over (brightest v) z pos) x;
      level = brightest v;
    }

-- J and H, the PQ signals of 1,000 cd/m2 and of the peak, in q-ths; they serve only when the lower fraction of H is above the upper one of J
pub record Ends (peak : ℕ) : Type 0 where
  pub q : ℕ
  pub pos : 0 < q
  pub J : Side → ℕ
  pub H : Side → ℕ
  pub J_value : (s : Side) → Value s (whole thousand) (over (J s) q pos)
  pub H_value : (s : Side) → Value s (whole (peak * units)) (over (H s) q pos)
  pub apart : J high < H low

-- H − X and H − J as the spline takes them: it falls with the first and rises with the second
abbrev pub X_to_H : {peak : ℕ} → Side → Ends peak → ℕ → ℕ
X_to_H s e X = e.H (other s) - X

abbrev pub J_to_H : {peak : ℕ} → Side → Ends peak → ℕ
J_to_H s e = e.H s - e.J (other s)

-- v, of J − 4(H − X)³ / (27(H − J)²)
abbrev pub Spline : {peak : ℕ} → Side → Ends peak → ℕ → ℕ → Type 0
Spline s e X v = At s (4 * X_to_H s e X ^ 3 + 27 * J_to_H s e ^ 2 * v) (27 * J_to_H s e ^ 2 * e.J s)

-- v, of the bent signal: X where 2X < 3J − H surely, the spline where surely not; where the fractions leave it open v must serve as both
abbrev pub BentSignal : {peak : ℕ} → Side → Ends peak → ℕ → ℕ → Type 0
BentSignal s e X v =
    ((2 * X + e.H high < 3 * e.J low) × At s v X) ⊎
    (((3 * e.J high ≤ 2 * X + e.H low) × Spline s e X v) ⊎
    (At s v X × Spline s e X v))

-- l, of the bent light under a peak above 1,000: X, whose fraction is x / q, is replaced by the smaller of it and H
pub record Bent (G : Given) (s : Side) (peak : ℕ) (l : Fraction) : Type 0 where
  pub ends : Ends peak
  pub x : ℕ
  pub at : G.X s (over x ends.q ends.pos)
  pub v : ℕ
  pub bent : BentSignal s ends (min x (ends.H s)) v
  pub light : Light s (over v ends.q ends.pos) l

-- or, where X lies surely below the knee, the light of X, which is the brightest light (request 11). Both sides read X's upper fraction: a lower one
-- may lie below the knee when X does not, and the curve then bends
pub record Straight (G : Given) (s : Side) (peak : ℕ) (l : Fraction) : Type 0 where
  pub ends : Ends peak
  pub x : ℕ
  pub at : G.X high (over x ends.q ends.pos)
  pub below : 2 * x + ends.H high < 3 * ends.J low
  pub light : G.Most s l

-- l, of the brightest light or 1,000 cd/m2, whichever is smaller
abbrev pub Smaller : Given → Side → Fraction → Type 0
Smaller G low l = Bounds low l (whole thousand) × G.Most low l
Smaller G high l = Bounds high l (whole thousand) ⊎ G.Most high l

-- l, of the bent light
unfoldable pub BentLight : Given → Side → ℕ → Fraction → Type 0
BentLight G s peak l = ((peak ≤ 1000) × Smaller G s l) ⊎ ((1000 < peak) × (Straight G s peak l ⊎ Bent G s peak l))

-- r, of a component's result: its own light times the bent light over the brightest light, of which a fraction 0 does not serve
pub record Result (G : Given) (s : Side) (peak : ℕ) (i : Component) (r : Fraction) : Type 0 where
  pub own : Fraction
  pub own_light : G.Own s i own
  pub bent : Fraction
  pub bent_light : BentLight G s peak bent
  pub most : Fraction
  pub most_light : G.Most (other s) most
  pub some : 0 < most.num
  pub bounds : Bounds s (r · most) (own · bent)

-- a result over 1,000 cd/m2
pub thousand_pos : 0 < thousand
unfolding thousand units
thousand_pos = omega arith

abbrev pub relative : Fraction → Fraction
relative r = r · over 1 thousand thousand_pos

-- the luminance of three such results r / z
abbrev pub luminance : Pixel → (z : ℕ) → 0 < z → Fraction
luminance r z pos = relative (over (weighted r) z pos) · over 1 10000 (zero-lt-suc 9999)

-- e, of a component's scene light in 1/2^40: its relative result over the sixth root of the luminance
pub record SceneLight (G : Given) (s : Side) (peak : ℕ) (i : Component) (e : ℕ) : Type 0 where
  pub own : Fraction
  pub own_result : Result G s peak i own
  pub z : ℕ
  pub pos : 0 < z
  pub r : Pixel
  pub results : (j : Component) → Result G (other s) peak j (over (r j) z pos)
  pub bounds : Bounds s (scene e ↑ 6 · luminance r z pos) (relative own ↑ 6)

-- g, of a component's HLG signal; each is 0 in a black pixel
unfoldable pub Signal : Given → Side → ℕ → Component → Fraction → Type 0
Signal G s peak i g = ((G.level ≡ 0) × (g.num ≡ 0)) ⊎ ((0 < G.level) × ((e : ℕ) × SceneLight G s peak i e × HlgSignal s (scene e) g))
