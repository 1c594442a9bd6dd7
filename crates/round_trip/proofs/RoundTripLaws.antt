-- Greys sent to PQ and converted again: every one comes back within one code, so within two; and how many come back equal, below and above.
use mathlib.Core.Path.{◌≡◌, refl, sym, ◌∙◌, ap, ap₂, subst, fun_ext}
use mathlib.Core.Bool.{Bool, cond, ◌&&◌}
use Prim.Native.Nat.{ℕ, zero, suc, ◌+◌, ◌-◌, ◌≤◌, ◌<◌}
use native.Mathlib.Omega.{arith}
use lib.Dec.{T, leb, eqb, leb→le}
use lib.Ieee.Fits.{and_l, and_r}
use lib.ListN.{length, get_or}
use Rattle.laws.proofs.ComputedTests.{every, at_entry}
use Rattle.quantity.specs.Component.{Component, Pixel}
use Rattle.quantity.specs.Source.{graded_at}
use Rattle.pixel.specs.Conversion.{code}
use Rattle.return_pixel.specs.Conversion.{pq_codes}
use Rattle.return_pixel.proofs.PixelLaws.{codes_from, codes_to}
use Rattle.round_trip.specs.RoundTrip.{returned_grey, Within, counted, Counts}
use Rattle.round_trip.proofs.GreyHints.{returned_codes}
use Rattle.round_trip.proofs.GreyLaws.{grey_code}
use Rattle.round_trip.proofs.RoundTripTests.{Trip, trip_test_lem, sent_code, hinted_test, greys_pass}

abbrev returned_code : ℕ → ℕ
returned_code d = get_or returned_codes (d - 64) 0

returned_length : length returned_codes ≡ 877
unfolding returned_codes
returned_length = refl

-- ---- the hints are the codes
module _ (d : ℕ) (from : 64 ≤ d) (to : d ≤ 940) where
  -- what a test shows that each of the stored codes passes
  at_code : (F : ℕ → ℕ → Bool) → T (every F 64 returned_codes) → T (F d (returned_code d))
  at_code F t =
      let e : 64 + (d - 64) ≡ d = omega arith in
      subst (λ n. T (F n (returned_code d))) e (at_entry F returned_codes 64 t (d - 64) (omega (arith, returned_length)))

  trip : Trip d (sent_code d) (returned_code d)
  trip = trip_test_lem d (sent_code d) (returned_code d) (at_code hinted_test greys_pass)

  pub sent : (i : Component) → pq_codes (λ k. d) i ≡ sent_code d
  unfolding pq_codes
  sent i = sym trip.to_pq

  pub returned : (i : Component) → returned_grey d i ≡ returned_code d
  unfolding returned_grey
  returned i =
      ap (λ (p : Pixel). code (graded_at 1000) p i) (fun_ext sent)
      ∙ grey_code (sent_code d) (omega (arith, sent i, codes_from (λ k. d) i)) (omega (arith, sent i, codes_to (λ k. d) i)) i
      ∙ sym trip.to_hlg

-- ---- within one code
abbrev near : ℕ → ℕ → Bool
near d e = leb d (e + 1) && leb e (d + 1)

all_near : T (every near 64 returned_codes)
unfolding returned_codes
all_near = tt

pub within_one : Within 1
within_one d from to i =
    let below = leb d (returned_code d + 1) in
    let above = leb (returned_code d) (d + 1) in
    let t = at_code d from to near all_near in
    let l = leb→le d (returned_code d + 1) (and_l below above t) in
    let r = leb→le (returned_code d) (d + 1) (and_r below above t) in
    (omega (arith, returned d from to i, l), omega (arith, returned d from to i, r))

pub within_two : Within 2
within_two d from to i = let one = within_one d from to i in (omega (arith, one.0), omega (arith, one.1))

-- ---- how many
alike : (f g : ℕ → Bool) (d n : ℕ) → ((k : ℕ) → d ≤ k → k < d + n → f k ≡ g k) → counted f d n ≡ counted g d n
alike f g d zero h = refl
alike f g d (suc n) h =
    ap₂ (λ (b : Bool) (m : ℕ). cond b 1 0 + m) (h d (omega arith) (omega arith)) (alike f g (suc d) n (λ k l m. h k (omega arith) (omega arith)))

stored : (counted (λ d. eqb (returned_code d) d) 64 877 ≡ 608) × (counted (λ d. eqb (returned_code d + 1) d) 64 877 ≡ 150) ×
    (counted (λ d. eqb (returned_code d) (d + 1)) 64 877 ≡ 119)
unfolding returned_codes
stored = (refl, refl, refl)

pub counts : Counts 608 150 119
counts =
    record {
      come_equal = λ i. of i (λ d e. eqb e d) ∙ stored.0;
      come_below = λ i. of i (λ d e. eqb (e + 1) d) ∙ stored.1;
      come_above = λ i. of i (λ d e. eqb e (d + 1)) ∙ stored.2;
    }
  where
    of : (i : Component) (F : ℕ → ℕ → Bool) → counted (λ d. F d (returned_grey d i)) 64 877 ≡ counted (λ d. F d (returned_code d)) 64 877
    of i F =
        alike (λ d. F d (returned_grey d i)) (λ d. F d (returned_code d)) 64 877
        (λ k l m. ap (F k) (returned k l (omega arith) i))
