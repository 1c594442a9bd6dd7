-- From a pixel's results, three a side over one denominator, to the enclosed HLG signals of its codes, however the results were got; then from lights
-- that a rounding encloses; and a black pixel.
use mathlib.Core.Path.{◌≡◌, refl, subst}
use mathlib.Core.Logic.{inl, inr}
use Prim.Native.Nat.{ℕ, ◌*◌, ◌≤◌, ◌<◌}
use native.Mathlib.Nat.{le_trans, mul-pos}
use native.Mathlib.Omega.{arith}
use lib.Dec.{lit≤}
use Rattle.laws.specs.Fraction.{Fraction, over}
use Rattle.laws.specs.Side.{Side, other, At}
use Rattle.laws.proofs.SideLaws.{at_refl}
use Rattle.quantity.specs.Units.{thousand}
use Rattle.quantity.specs.Component.{Component, Pixel, weighted}
use Rattle.hlg_steps.specs.Signal.{HlgSignal}
use Rattle.hlg_steps.specs.Steps.{scene}
use Rattle.hlg.specs.Code.{hlg_code}
use Rattle.exact.specs.ExactValue.{Given, BentLight, Result, Signal}
use Rattle.distance.specs.Demand.{Enclosed}
use Rattle.hlg.proofs.CancelledLaws.{code_is}
use Rattle.distance.proofs.SceneBounds.{Scaled, scene_bounds}
use Rattle.pixel.proofs.PixelLaws.{Mapped}
use Rattle.distance.proofs.FoundNumbers.{room_above, room_below}
use Rattle.distance.proofs.NearLaws.{Near, Rounding, end, around, BentWithin, numerators, denominators, mapped_le, brightest_pos, end_pos, least, near}
use Rattle.distance.proofs.StepLaws.{Room, room, past_thousand}
use Rattle.distance.proofs.CodeDistance.{code_below, Endpoint, Ending, ending_scene, none}

pub record Results (G : Given) (peak : ℕ) (n : Side → Pixel) (d : Side → ℕ) : Type 0 where
  pub seen : 0 < G.level
  pub pos : (s : Side) → 0 < d s
  pub results : (s : Side) (i : Component) → Result G s peak i (over (n s i) (d s) (pos s))

module _ {G : Given} {peak : ℕ} {n : Side → Pixel} {d : Side → ℕ} (F : Results G peak n d) where
  signal_of : (s : Side) (i : Component) (e : ℕ) (g : Fraction) → Scaled s e (n s i) (d s) (weighted (n (other s))) (d (other s))
      → HlgSignal s (scene e) g → Signal G s peak i g
  unfolding Signal
  signal_of s i e g by_scene by_signal =
      inr (
        F.seen,
        (
          e,
          record {
            own = over (n s i) (d s) (F.pos s);
            own_result = F.results s i;
            z = d (other s);
            pos = F.pos (other s);
            r = n (other s);
            results = F.results (other s);
            bounds = scene_bounds s e (n s i) (d s) (F.pos s) (n (other s)) (d (other s)) (F.pos (other s)) by_scene;
          },
          by_signal,
        ),
      )

  -- a component is enclosed by an end on each side, a scene light there that its results allow
  pub by_ends : {i : Component} {Inside : Fraction → Type 0}
      → ((s : Side) → Endpoint s (λ e. Scaled s e (n s i) (d s) (weighted (n (other s))) (d (other s))) Inside) → Enclosed G peak i Inside
  by_ends {i = i} E =
      record { fraction = λ s. (E s).g; signals = λ s. signal_of s i (E s).e (E s).g (E s).fits (E s).signal; inside = λ s. (E s).inside }

  -- near its mapped number by those that a bound asks at its code
  pub at_code : {s g s' h y u l p q : ℕ} {r : Pixel} {i : Component} {Inside : Fraction → Type 0} → Room s g s' h y u l
      → Near s g s' h p q n d r i → y ≤ weighted r → 0 < p → 0 < q → hlg_code (weighted r) (r i) ≤ 1015
      → Ending p q u l (hlg_code (weighted r) (r i)) Inside → Enclosed G peak i Inside
  at_code {r = r} {i = i} R N enough pp pq top E =
      by_ends (λ s. record {
        e = (E s).e;
        fits = ending_scene R N enough pp pq (code_is (weighted r) (r i)) top s (E s).e (E s).fits;
        g = (E s).g;
        signal = (E s).signal;
        inside = (E s).inside;
      })

  -- and at most 1,000 cd/m2, by what it asks at every code that this reaches
  pub within : {s g s' h y u l p q : ℕ} {r : Pixel} {i : Component} {Inside : ℕ → Fraction → Type 0} → Room s g s' h y u l
      → Near s g s' h p q n d r i → y ≤ weighted r → 0 < p → 0 < q → r i ≤ thousand
      → ((c : ℕ) → 64 ≤ c → c ≤ 1015 → Ending p q u l c (Inside c)) → Enclosed G peak i (Inside (hlg_code (weighted r) (r i)))
  within {r = r} {i = i} R N enough pp pq most endings =
      let c = code_is (weighted r) (r i) in
      let top : hlg_code (weighted r) (r i) ≤ 1015 = omega (arith, code_below 1016 (lit≤ tt) N.part most past_thousand c) in
      at_code R N enough pp pq top (endings (hlg_code (weighted r) (r i)) c.low top)

cancel : (s : Side) (o t e z : ℕ) → At s (o * t * e * (z * z)) (o * t * (z * e * z))
cancel s o t e z = subst (λ k. At s k (o * t * (z * e * z))) (omega arith) (at_refl s (o * t * (z * e * z)))

-- ---- results from lights x, the brightest of them m, that a rounding encloses, and from an enclosed bent light
module _ (R : Rounding) {G : Given} {peak p q m n : ℕ} {b : Side → ℕ} {x r : Pixel} (seen : 0 < G.level)
    (own : (s : Side) (i : Component) → G.Own s i (around R s (x i)))
    (most : (s : Side) → G.Most s (around R s m)) (bent : (s : Side) → BentLight G s peak (over (b s) R.parts R.pos))
    (B : BentWithin R p q m n b) (P : Mapped m n x r) (top : n ≤ thousand) where
  results : Results G peak (numerators R x b) (denominators R m)
  results =
      record {
        seen = seen;
        pos = λ s. mul-pos R.pos (end_pos R B P (other s));
        results = λ s i. record {
          own = around R s (x i);
          own_light = own s i;
          bent = over (b s) R.parts R.pos;
          bent_light = bent s;
          most = around R (other s) m;
          most_light = most (other s);
          some = end_pos R B P (other s);
          bounds = cancel s (end R s (x i)) (b s) (end R (other s) m) R.parts;
        };
      }

  pub bounded : {Inside : ℕ → Fraction → Type 0} → 0 < p → 0 < q → ((c : ℕ) → 64 ≤ c → c ≤ 1015 → Ending p q room_above room_below c (Inside c))
      → (i : Component) → Enclosed G peak i (Inside (hlg_code (weighted r) (r i)))
  bounded pp pq endings i =
      within results room (near R B P i) (least R B P) pp pq (le_trans (mapped_le (brightest_pos R B P) (P.inside i) (P.floors i)) top) endings

-- a bound inside another
pub wider : {G : Given} {peak : ℕ} {i : Component} {A B : Fraction → Type 0} → ((g : Fraction) → A g → B g) → Enclosed G peak i A → Enclosed G peak i B
wider f x = record { fraction = x.fraction; signals = x.signals; inside = λ s. f (x.fraction s) (x.inside s) }

-- a black pixel has the signal 0
pub black : {G : Given} {peak : ℕ} {i : Component} {Inside : Fraction → Type 0} → G.level ≡ 0 → Inside none → Enclosed G peak i Inside
unfolding Signal none
black e h = record { fraction = λ s. none; signals = λ s. inl (e, refl); inside = λ s. h }
