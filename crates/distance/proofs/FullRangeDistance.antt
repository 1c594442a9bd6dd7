-- Full range: under every peak the HLG codes of a pixel of full-range codes stand one and a half codes from their exact values at most, whether the curve
-- bends it or not. From lights enclosed at the positions of codes; lit pixels, dim ones and black.
use mathlib.Core.Path.{◌≡◌, ◌∙◌, sym, subst}
use mathlib.Core.Logic.{◌⊎◌, inl, inr}
use Prim.Native.Nat.{ℕ, ◌*◌, ◌≤◌, ◌<◌}
use native.Mathlib.Nat.{le_trans}
use native.Mathlib.Decide.{dec_le}
use native.Mathlib.Omega.{arith}
use lib.Dec.{lit<}
use Rattle.quantity.specs.Units.{units, thousand, last_position}
use Rattle.quantity.specs.declared.sample_format.Depth.{Depth}
use Rattle.quantity.specs.declared.sample_format.Range.TheVariants.{Full}
use Rattle.quantity.specs.declared.sample_format.SampleFormat.{SampleFormat}
use Rattle.quantity.specs.SampleFormat.{coded}
use Rattle.quantity.specs.Component.{Component, Pixel, brightest, weighted}
use Rattle.position.specs.Position.{light_at}
use Rattle.position.specs.Code.{above_black}
use Rattle.position.proofs.PositionLaws.{position_is}
use Rattle.position.proofs.CodeLaws.{black_light}
use Rattle.full_range.proofs.FullRangeTests.{beside}
use Rattle.eetf.specs.Curve.{bent_light}
use Rattle.eetf.proofs.CurveLaws.{bent_le_thousand}
use Rattle.hlg.specs.Code.{hlg_code}
use Rattle.pixel.specs.Conversion.{mapped_of, code_of, lights, brightest_position, code}
use Rattle.pixel.proofs.PixelLaws.{Mapped, light_ratio_kept, brightest_lit, light_of_brightest, code_dark}
use Rattle.exact.specs.ExactValue.{Given, of_codes, BentLight}
use Rattle.distance.specs.Demand.{AtMost, Enclosed}
use Rattle.distance.proofs.FoundNumbers.{dim_light, full_room_above, full_room_below, full_ratio_under, full_ratio_over}
use Rattle.distance.proofs.NearLaws.{mapped_le}
use Rattle.distance.proofs.CodeDistance.{between_all, none}
use Rattle.distance.proofs.PixelDistance.{within, black}
use Rattle.distance.proofs.LightLaws.{entries}
use Rattle.distance.proofs.BentLightLaws.{Left, left_is, in_parts, thousand_ge}
use Rattle.distance.proofs.FullRangeSteps.{full_ratios, full_room}
use Rattle.distance.proofs.FullRangeNear.{near, lit_luminance_lem}
use Rattle.distance.proofs.FirstCodes.{twelve, dim_le, first_ge, dim_or_lit}
use Rattle.distance.proofs.FullRangeCodes.{held_at, signal_from_to, light_from_to, own, dark_or_first}
use Rattle.distance.proofs.FullRangeBent.{Beside, results, left, enclosure}
use Rattle.distance.proofs.DimDistance.{dim_within}

-- ---- a pixel that is not black
module _ (d : Depth) (p : Pixel) (peak : ℕ) (most : peak ≤ 10000) (some : 0 < above_black (coded d Full) (brightest p)) where
  abbrev f : SampleFormat
  f = coded d Full

  abbrev G : Given
  G = of_codes f p

  abbrev x : Pixel
  x = lights f p

  abbrev m : ℕ
  m = brightest_position f p

  abbrev r : Pixel
  r = mapped_of peak x m

  pixel_beside : Beside G x m
  unfolding brightest_position
  pixel_beside =
      record {
        held = held_at d (brightest p) some;
        seen = some;
        some = first_ge d (brightest p) some;
        signal = signal_from_to d (brightest p) some;
        own = λ s i. own d s (p i);
        most = light_from_to d (brightest p) some;
      }

  maps : Mapped (light_at m) (bent_light peak (light_at m) m) x r
  maps = light_ratio_kept peak x m (brightest_lit f p) (omega (arith, pixel_beside.some))

  lit_pixel : twelve 4 ≤ m → (i : Component) → Enclosed G peak i (AtMost 3 2 (hlg_code (weighted r) (r i)))
  lit_pixel h i =
      let E = enclosure pixel_beside peak most h in
      let inside : r i ≤ thousand = le_trans (mapped_le (omega (arith, pixel_beside.some)) (maps.inside i) (maps.floors i)) (bent_le_thousand peak m) in
      within (results pixel_beside peak E.b E.lights) full_room (near E.within maps i) (lit_luminance_lem E.within maps) (lit< tt) (lit< tt) inside
      (between_all full_ratio_under full_ratio_over full_room_above full_room_below full_ratios)

  -- no curve bends a dim one
  dim_pixel : m ≤ twelve 3 → (i : Component) → Enclosed G peak i (AtMost 3 2 (hlg_code (weighted r) (r i)))
  unfolding last_position
  dim_pixel h =
      let dim : light_at m ≤ dim_light = dim_le m h in
      let straight : Left peak m = inr (omega (arith, (position_is (peak * units)).range)) in
      let same : bent_light peak (light_at m) m ≡ light_at m = omega (arith, left_is peak m most straight, dim, thousand_ge) in
      dim_within pixel_beside (subst (λ n. Mapped (light_at m) n x r) same maps) dim (λ i. dark_or_first d (p i)) peak
      (λ s. subst (λ n. BentLight G s peak (in_parts (entries.parts * beside s n))) same (left pixel_beside peak most straight s))

  seen_pixel : (i : Component) → Enclosed G peak i (AtMost 3 2 (code_of peak x m i))
  unfolding code_of brightest_position
  seen_pixel i = go (dim_or_lit d (brightest p))
    where
      go : (m ≤ twelve 3) ⊎ (twelve 4 ≤ m) → Enclosed G peak i (AtMost 3 2 (code_of peak x m i))
      go (inl h) = dim_pixel h i
      go (inr h) = lit_pixel h i

pub full_range : (d : Depth) (p : Pixel) (peak : ℕ) → peak ≤ 10000 → (i : Component)
    → Enclosed (of_codes (coded d Full) p) peak i (AtMost 3 2 (code_of peak (lights (coded d Full) p) (brightest_position (coded d Full) p) i))
unfolding code none
full_range d p peak most i = go (dec_le 1 (above_black f (brightest p)))
  where
    f : SampleFormat
    f = coded d Full

    dark_pixel : above_black f (brightest p) ≡ 0 → code_of peak (lights f p) (brightest_position f p) i ≡ 64
    dark_pixel e = code_dark (record { peak = peak; format = f }) p (light_of_brightest f p ∙ black_light f (brightest p) e) i

    go : Dec (1 ≤ above_black f (brightest p)) → Enclosed (of_codes f p) peak i (AtMost 3 2 (code_of peak (lights f p) (brightest_position f p) i))
    go (yes h) = seen_pixel d p peak most h i
    go (no h) =
        let e : above_black f (brightest p) ≡ 0 = omega arith in
        subst (λ c. Enclosed (of_codes f p) peak i (AtMost 3 2 c)) (sym (dark_pixel e)) (black e (omega arith))
