-- Demand 3, whole: every peak from 1 to 10,000, every depth and range and every pixel of codes that are taken, about the definitions of mapped
-- components and HLG codes.
use mathlib.Core.Path.{◌≡◌, ◌∙◌, sym, ap, subst}
use Prim.Native.Nat.{ℕ, ◌*◌, ◌≤◌, ◌<◌}
use native.Mathlib.Nat.{le_of_eq}
use native.Mathlib.Decide.{dec_le}
use native.Mathlib.Omega.{arith}
use lib.Dec.{lit<}
use Rattle.laws.specs.Fraction.{Fraction}
use Rattle.laws.specs.Side.{low, high}
use Rattle.laws.proofs.SideLaws.{at_refl}
use Rattle.quantity.specs.declared.sample_format.Depth.{Depth}
use Rattle.quantity.specs.declared.sample_format.Range.{Range}
use Rattle.quantity.specs.declared.sample_format.Range.TheVariants.{Narrow, Full}
use Rattle.quantity.specs.declared.sample_format.SampleFormat.{SampleFormat}
use Rattle.quantity.specs.declared.Source.{Source}
use Rattle.quantity.specs.SampleFormat.{excursion, coded}
use Rattle.quantity.specs.Component.{Component, Pixel, brightest}
use Rattle.pq.specs.Pq.{position_signal}
use Rattle.position.specs.Position.{light_at}
use Rattle.position.specs.Code.{above_black, code_signal, code_position}
use Rattle.position.proofs.CodeLaws.{black_light, narrow_position}
use Rattle.eetf.specs.Curve.{bent_light}
use Rattle.eetf.proofs.CurveLaws.{bent_le_thousand}
use Rattle.pixel.specs.Conversion.{mapped_of, code_of, lights, brightest_position, code}
use Rattle.pixel.proofs.PixelLaws.{Mapped, light_ratio_kept, light_of_brightest, brightest_lit, code_dark, mapped_at_most}
use Rattle.pixel.proofs.OrderLaws.{ordered, greys}
use Rattle.exact.specs.ExactValue.{Given, of_codes}
use Rattle.distance.specs.Demand.{AtMost, Enclosed, Unbent, Anywhere, Throughout, Voted, Demand}
use Rattle.distance.proofs.FoundNumbers.{room_above, room_below}
use Rattle.distance.proofs.CodeDistance.{Ending, by_ratio, none}
use Rattle.distance.proofs.PixelDistance.{bounded, wider, black}
use Rattle.distance.proofs.LightLaws.{entries, same_light, code_index, index_range, index_signal_lem, index_some, code_light_lem}
use Rattle.distance.proofs.FullRangeDistance.{full_range}
use Rattle.distance.proofs.BentLightLaws.{Indexed, Enclosure, lit_light_lem, own_light, enclosure}

-- ---- a pixel whose brightest light is that of an index, m being its position
module _ {G : Given} {x : Pixel} {m : ℕ} (I : Indexed G x m) (peak : ℕ) (most : peak ≤ 10000) where
  some : 0 < light_at m
  some = omega (arith, lit_light_lem I peak most)

  maps : Mapped (light_at m) (bent_light peak (light_at m) m) x (mapped_of peak x m)
  maps = light_ratio_kept peak x m I.lit some

  -- from an enclosure of the bent light to the bound that its ratio allows
  by_enclosure : {p q : ℕ} {Inside : ℕ → Fraction → Type 0} → Enclosure p q G peak m → 0 < p → 0 < q
      → ((c : ℕ) → 64 ≤ c → c ≤ 1015 → Ending p q room_above room_below c (Inside c)) → (i : Component) → Enclosed G peak i (Inside (code_of peak x m i))
  unfolding code_of
  by_enclosure E =
      bounded entries I.seen I.own (λ s. I.most s _ (own_light I peak most s _ (at_refl s _))) E.lights E.within maps (bent_le_thousand peak m)

  -- which is 9/16 of a code, bent or not
  near : (i : Component) → Enclosed G peak i (AtMost 9 16 (code_of peak x m i))
  near = by_enclosure (enclosure I peak most) (lit< tt) (lit< tt) by_ratio

-- ---- codes of narrow range: the position of each is that of an index
abbrev source_of : ℕ → Depth → Range → Source
source_of peak d r = record { peak = peak; format = coded d r }

module _ (d : Depth) (p : Pixel) (peak : ℕ) (most : peak ≤ 10000) where
  abbrev f : SampleFormat
  f = coded d Narrow

  abbrev D : ℕ
  D = brightest p

  indexed : 0 < above_black f D → Indexed (of_codes f p) (lights f p) (brightest_position f p)
  unfolding brightest_position
  indexed h =
      record {
        k = code_index d D;
        at = narrow_position d D;
        some = index_some d D h;
        range = index_range d D;
        seen = h;
        lit = brightest_lit f p;
        signal = elim [ low ↦ le_of_eq same | high ↦ le_of_eq (sym same) ];
        own = λ s i. code_light_lem d (p i) s;
        most = λ s l. same_light s (position_signal (code_position f D)) (code_signal f D) l same;
      }
    where
      same : code_position f D * excursion f ≡ above_black f D * 897024
      same = omega (arith, ap (λ q. q * excursion f) (narrow_position d D), index_signal_lem d D)

  -- a bound for codes: by the index, or in a black pixel
  by_index : (Inside : ℕ → Fraction → Type 0) → Inside 64 none
      → (Indexed (of_codes f p) (lights f p) (brightest_position f p) → (i : Component)
      → Enclosed (of_codes f p) peak i (Inside (code_of peak (lights f p) (brightest_position f p) i)))
      → (i : Component) → Enclosed (of_codes f p) peak i (Inside (code (source_of peak d Narrow) p i))
  unfolding code
  by_index Inside zero g i = go (dec_le 1 (above_black f D))
    where
      go : Dec (1 ≤ above_black f D) → Enclosed (of_codes f p) peak i (Inside (code (source_of peak d Narrow) p i))
      go (yes h) = g (indexed h) i
      go (no h) =
          let e : above_black f D ≡ 0 = omega arith in
          subst (λ c. Enclosed (of_codes f p) peak i (Inside c)) (sym (code_dark (source_of peak d Narrow) p (light_of_brightest f p ∙ black_light f D e) i))
          (black e zero)

-- ---- either range
throughout : (d : Depth) (r : Range) (p : Pixel) (peak : ℕ) → peak ≤ 10000
    → (i : Component) → Enclosed (of_codes (coded d r) p) peak i (Throughout r (code (source_of peak d r) p i))
unfolding code none
throughout d Narrow p peak most = by_index d p peak most (AtMost 9 16) (omega arith) (λ I. near I peak most)
throughout d Full p peak most = full_range d p peak most

-- which gives what was asked of all pixels, and of those that are not bent
as_anywhere : (r : Range) (d : ℕ) (g : Fraction) → Throughout r d g → Anywhere r d g
as_anywhere Narrow d g h = omega (arith, h, g.pos)
as_anywhere Full d g h = omega (arith, h, g.pos)

as_unbent : (r : Range) (d : ℕ) (g : Fraction) → Throughout r d g → Unbent r d g
as_unbent Narrow d g h = h
as_unbent Full d g h = omega (arith, h, g.pos)

-- the voted property of each source and pixel, and over all of them
pub voted : (source : Source) (p : Pixel) → source.peak ≤ 10000 → Voted source p
voted source p most =
    let r = source.format.range in
    let all = throughout source.format.depth r p source.peak most in
    record {
      near = λ i. wider (as_anywhere r (code source p i)) (all i);
      nearer = λ c i. wider (as_unbent r (code source p i)) (all i);
      throughout = all;
      capped = mapped_at_most source p;
      ordered = ordered source p;
      greys = λ c d from l to. greys source c d l;
    }

pub demand : Demand
unfolding Demand
demand source least most p codes = voted source p most
