-- The distance of a code from its exact value, for a component whose fractions are near its mapped number: scene lights and signals on both sides.
use mathlib.Core.Path.{◌≡◌, refl, subst, sym, ap}
use mathlib.Core.Logic.{◌⊎◌, inl, inr}
use Prim.Native.Nat.{ℕ, ◌+◌, ◌-◌, ◌*◌, ◌^◌, ◌≤◌, ◌<◌}
use native.Mathlib.Nat.{le_trans, le_of_lt, lt_of_not-le, not-le_of_lt, mul-le-mul_left, mul-le-mul_right, le_of_mul-le-mul_right, pow-le-pow_left, pow-suc}
use native.Mathlib.Nat.{zero-lt-suc}
use native.Mathlib.Decide.{dec_le}
use native.Mathlib.Omega.{arith}
use lib.Dec.{T}
use Rattle.laws.specs.Fraction.{Fraction, over}
use Rattle.laws.specs.Side.{Side, low, high, other}
use Rattle.laws.proofs.ComputedTests.{every, every_pair}
use Rattle.quantity.specs.Component.{Component, Pixel, weighted}
use Rattle.hlg_steps.specs.Exponential.{sum_num, sum_den}
use Rattle.hlg_steps.specs.Signal.{inner_num, inner_den, above_c, below_c, slope, HlgSignal}
use Rattle.hlg_steps.specs.Steps.{scene, threshold_signal}
use Rattle.hlg_steps.specs.StepTable.{step_table, step}
use Rattle.hlg_steps.proofs.SignalTests.{signal_test_lem}
use Rattle.hlg_steps.proofs.StepLaws.{step_pos, step_signal_low, step_signal_high, steps_grow}
use Rattle.hlg.proofs.CancelledLaws.{C, K, C_pos, Reach, Code}
use Rattle.distance.specs.Demand.{AtMost}
use Rattle.distance.proofs.FoundNumbers.{room_above, room_below, ratio_under, ratio_over}
use Rattle.distance.proofs.SceneBounds.{Scaled}
use Rattle.distance.proofs.AdditiveLaws.{add_up, add_lo}
use Rattle.distance.proofs.RatioLaws.{mult_up, mult_lo}
use Rattle.distance.proofs.NearLaws.{Near}
use Rattle.distance.proofs.StepTests.{sixteenths, sixteenth, farthest, sixteenths_low, sixteenths_high, least, ratio}
use Rattle.distance.proofs.StepLaws.{Stepped, sixteenth_signal, farthest_high, farthest_low, Room, between_steps}

-- a step that is not reached is enough
missed : {t y r : ℕ} → ¬ Reach t y r → C * r ^ 6 ≤ t ^ 6 * K * y
missed {t} {y} {r} h = go (dec_le 1 r) (dec_le (t ^ 6 * K * y) (C * r ^ 6))
  where
    go : Dec (1 ≤ r) → Dec (t ^ 6 * K * y ≤ C * r ^ 6) → C * r ^ 6 ≤ t ^ 6 * K * y
    go (yes p) (yes q) = absurd (h record { some = p; power = q })
    go p (no q) = le_of_lt (lt_of_not-le q)
    go (no p) (yes q) = let e : r ≡ 0 = omega arith in subst (λ x. C * x ^ 6 ≤ t ^ 6 * K * y) (sym e) (omega arith)

fifth : (c k t s y r r5 r6 : ℕ) → 0 < r → r6 ≡ r5 * r → t ≤ s → 593 * r ≤ y → s * k * y ≤ c * r6 → t * k * 593 ≤ c * r5
fifth c k t s y r r5 r6 p e h j g = le_of_mul-le-mul_right {k = r} (omega (arith, ap (λ x. c * x) e, mul-le-mul_right (k * y) h, mul-le-mul_left (t * k) j)) p

-- where a of blue alone does not reach the code e, no component of at most a does
pub code_below : {y r d a : ℕ} (e : ℕ) → 65 ≤ e → 593 * r ≤ y → r ≤ a → C * a ^ 5 < step e ^ 6 * K * 593 → Code y r d → d < e
code_below {y} {r} {d} {a} e from part h past c = lt_of_not-le (λ l. none l (c.reached (omega arith)))
  where
    none : e ≤ d → ¬ Reach (step d) y r
    none l k =
        not-le_of_lt past
        (le_trans (fifth C K (step e ^ 6) (step d ^ 6) y r (r ^ 5) (r ^ 6) k.some (pow-suc r 5) (pow-le-pow_left (steps_grow e d l) 6) part k.power)
        (mul-le-mul_left C (pow-le-pow_left h 5)))

-- ---- what a bound asks at a code on one side: a scene light e that the fractions fit, with a signal inside
pub record Endpoint (s : Side) (Fits : ℕ → Type 0) (Inside : Fraction → Type 0) : Type 0 where
  pub e : ℕ
  pub fits : Fits e
  pub g : Fraction
  pub signal : HlgSignal s (scene e) g
  pub inside : Inside g

-- at the code d, where fractions take the room u and l and the ratio q / p: far enough from the next step, or from its own; 0 serves below always
abbrev pub Fits : (p q u l d : ℕ) → Side → ℕ → Type 0
Fits p q u l d high e = q * q ^ 6 * (step (d + 1) + u) ^ 6 ≤ p * p ^ 6 * e ^ 6
Fits p q u l d low e = (e ≡ 0) ⊎ ((64 < d) × (q * q ^ 6 * e ^ 6 ≤ p * p ^ 6 * (step d - l) ^ 6))

abbrev pub Ending : (p q u l d : ℕ) → (Fraction → Type 0) → Type 0
Ending p q u l d Inside = (s : Side) → Endpoint s (Fits p q u l d s) Inside

-- what serves in more room serves in less
pub in_less_room : (p q : ℕ) {u l u' l' d : ℕ} {Inside : Fraction → Type 0} → u ≤ u' → l ≤ l' → Ending p q u' l' d Inside → Ending p q u l d Inside
in_less_room p q {u} {l} {u'} {l'} {d} h k E high =
    let x = E high in
    let fits = le_trans (mul-le-mul_left (q * q ^ 6) (pow-le-pow_left {n = step (d + 1) + u} {m = step (d + 1) + u'} (omega arith) 6)) x.fits in
    record { e = x.e; fits = fits; g = x.g; signal = x.signal; inside = x.inside }
in_less_room p q {u} {l} {u'} {l'} {d} h k E low =
    let x = E low in
    record { e = x.e; fits = go x.e x.fits; g = x.g; signal = x.signal; inside = x.inside }
  where
    go : (e : ℕ) → Fits p q u' l' d low e → Fits p q u l d low e
    go e (inl z) = inl z
    go e (inr f) = inr (f.0, le_trans f.1 (mul-le-mul_left (p * p ^ 6) (pow-le-pow_left {n = step d - l'} {m = step d - l} (omega arith) 6)))

module _ {s g s' h y u l p q : ℕ} (R : Room s g s' h y u l) {n : Side → Pixel} {d : Side → ℕ} {r : Pixel} {i : Component} (N : Near s g s' h p q n d r i)
    (enough : y ≤ weighted r) (pp : 0 < p) (pq : 0 < q) where
  full : (v t : ℕ) → t ≤ v * r i → least y v t ≤ v * weighted r
  full v t f = omega (arith, mul-le-mul_left v N.part, mul-le-mul_left v enough)

  -- from a step that is not reached, and from one that is
  scene_up : (c e : ℕ) → Stepped c → ¬ Reach (step c) (weighted r) (r i) → q * q ^ 6 * (step c + u) ^ 6 ≤ p * p ^ 6 * e ^ 6
      → Scaled high e (n high i) (d high) (weighted (n low)) (d low)
  scene_up c e k m f =
      let t = step c in
      let Y = weighted r in
      mult_up C K p q (n high i) (d high) (weighted (n low)) (d low) (r i + s) (Y - g) (t + u) e pp N.result_high N.luminance_low
      (add_up R.v u g s C K t (least y R.v t) (r i) Y (Y - g) (step_pos c) R.some (R.high c k) (missed m) (omega arith) (full R.v t)
      (le_trans R.slope_high (mul-le-mul_left (R.v ^ 6 * K) (omega (arith, enough))))) f

  scene_lo : (c e : ℕ) → Stepped c → Reach (step c) (weighted r) (r i) → q * q ^ 6 * e ^ 6 ≤ p * p ^ 6 * (step c - l) ^ 6
      → Scaled low e (n low i) (d low) (weighted (n high)) (d high)
  scene_lo c e k m f =
      let t = step c in
      let Y = weighted r in
      mult_lo C K p q (n low i) (d low) (weighted (n high)) (d high) (r i - s') (Y + h) (t - l) e pp pq N.result_low N.luminance_high
      (add_lo R.v' l h s' C K t (least y R.v' t) (r i) Y (step_pos c) C_pos (R.low c k) m.power (full R.v' t)
      (le_trans R.slope_low (mul-le-mul_left (R.v' ^ 6 * K) enough))) f

  pub ending_scene : {D : ℕ} → Code (weighted r) (r i) D → D ≤ 1015 → (s : Side) (e : ℕ) → Fits p q u l D s e
      → Scaled s e (n s i) (d s) (weighted (n (other s))) (d (other s))
  ending_scene {D} c top high e f =
      scene_up (D + 1) e (record { from = omega (arith, c.low); to = omega arith }) (c.last (D + 1) (omega arith) (omega arith)) f
  ending_scene c top low e (inl z) = rw z (omega arith)
  ending_scene {D} c top low e (inr f) = scene_lo D e (record { from = f.0; to = omega arith }) (c.reached f.0) f.1

-- ---- the bounds
unfoldable pub none : Fraction
none = over 0 1 (zero-lt-suc 0)

pub none_below : {F : ℕ → Type 0} {Inside : Fraction → Type 0} → F 0 → Inside none → Endpoint low F Inside
unfolding none sum_num sum_den inner_num inner_den above_c below_c slope
none_below f h = record { e = 0; fits = f; g = none; signal = signal_test_lem low (scene 0) (over 0 1 (zero-lt-suc 0)) tt; inside = h }

-- 9/16 of a code either side, from scene lights whose signals were tested to be so
pub nine_sixteenths : (p q u l : ℕ) (up down : ℕ → ℕ) → T (every (sixteenth high up) 0 step_table) → T (every (sixteenth low down) 0 step_table)
    → ((t : ℕ) → q * q ^ 6 * (t + u) ^ 6 ≤ p * p ^ 6 * up t ^ 6) → ((t : ℕ) → q * q ^ 6 * down t ^ 6 ≤ p * p ^ 6 * (t - l) ^ 6)
    → (d : ℕ) → 64 ≤ d → d ≤ 1015 → Ending p q u l d (AtMost 9 16 d)
unfolding none
nine_sixteenths p q u l up down above below fits_up fits_down d from to high =
    record {
      e = up (step (d + 1));
      fits = fits_up (step (d + 1));
      g = sixteenths (16 * (d + 1 - 65) + 9);
      signal = sixteenth_signal high up above (d + 1) (record { from = omega arith; to = omega arith });
      inside = omega arith;
    }
nine_sixteenths p q u l up down above below fits_up fits_down d from to low = go (dec_le d 64)
  where
    go : Dec (d ≤ 64) → Endpoint low (Fits p q u l d low) (AtMost 9 16 d)
    go (yes k) = none_below (inl refl) (omega arith)
    go (no k) =
        record {
          e = down (step d);
          fits = inr (omega arith, fits_down (step d));
          g = sixteenths (16 * (d - 65) + 7);
          signal = sixteenth_signal low down below d (record { from = omega arith; to = omega arith });
          inside = omega arith;
        }

-- the ratio's own tests among them
pub by_ratio : (d : ℕ) → 64 ≤ d → d ≤ 1015 → Ending ratio_under ratio_over room_above room_below d (AtMost 9 16 d)
by_ratio =
    nine_sixteenths ratio_under ratio_over room_above room_below (farthest high) (farthest low) sixteenths_high sixteenths_low farthest_high farthest_low

-- one and a half codes either side, where a ratio and the room fit from the next step to the one after it, and from a step to the one before
pub one_and_a_half : (p q u l d : ℕ) → 64 ≤ d → d ≤ 1015 → Fits p q u l d high (step (d + 2) - 1) → (65 < d → Fits p q u l d low (step (d - 1)))
    → Ending p q u l d (AtMost 3 2 d)
unfolding none
one_and_a_half p q u l d from to above below high =
    record {
      e = step (d + 2) - 1;
      fits = above;
      g = threshold_signal (d + 2);
      signal = step_signal_high (d + 2) (omega arith) (omega arith);
      inside = omega arith;
    }
one_and_a_half p q u l d from to above below low = go (dec_le d 65)
  where
    go : Dec (d ≤ 65) → Endpoint low (Fits p q u l d low) (AtMost 3 2 d)
    go (yes k) = none_below (inl refl) (omega arith)
    go (no k) =
        record {
          e = step (d - 1);
          fits = below (omega arith);
          g = threshold_signal (d - 1);
          signal = step_signal_low (d - 1) (omega arith) (omega arith);
          inside = omega arith;
        }

-- which was tested between all neighbouring steps
pub between_all : (p q u l : ℕ) → T (every_pair (ratio p q u l) step_table) → (d : ℕ) → 64 ≤ d → d ≤ 1015 → Ending p q u l d (AtMost 3 2 d)
between_all p q u l test d from to =
    let next : d + 1 + 1 ≡ d + 2 = omega arith in
    let above = (between_steps p q u l test (d + 1) (omega arith) (omega arith)).0 in
    one_and_a_half p q u l d from to (subst (λ c. q * q ^ 6 * (step (d + 1) + u) ^ 6 ≤ p * p ^ 6 * (step c - 1) ^ 6) next above) below
  where
    below : 65 < d → Fits p q u l d low (step (d - 1))
    below k =
        let next : d - 1 + 1 ≡ d = omega arith in
        let fits = (between_steps p q u l test (d - 1) (omega arith) (omega arith)).1 in
        inr (omega arith, subst (λ c. q * q ^ 6 * step (d - 1) ^ 6 ≤ p * p ^ 6 * (step c - l) ^ 6) next fits)
