-- The twelve marked pixels and one more, by computation: under a peak above 1,000 the bent light is found by law, all else by the definitions.
use mathlib.Core.Path.{◌≡◌, refl, ◌∙◌, ap}
use Prim.Native.Nat.{ℕ, ◌*◌, ◌<◌}
use native.Mathlib.Nat.{mul-div_cancel_left}
use native.Mathlib.Omega.{arith}
use lib.Dec.{lit<}
use Rattle.laws.specs.Largest.{largest}
use Rattle.quantity.specs.Units.{units, thousand, last_position}
use Rattle.quantity.specs.declared.sample_format.Depth.TheVariants.{Ten}
use Rattle.quantity.specs.declared.sample_format.Range.TheVariants.{Narrow}
use Rattle.quantity.specs.declared.sample_format.SampleFormat.{SampleFormat}
use Rattle.quantity.specs.declared.Source.{Source}
use Rattle.quantity.specs.SampleFormat.{coded}
use Rattle.quantity.specs.Source.{graded_at}
use Rattle.quantity.specs.Component.{Component, red, green, blue, Pixel, pixel, brightest}
use Rattle.pq.specs.LightTable.{light_table, light_entry}
use Rattle.position.specs.Position.{light_at, position_of}
use Rattle.position.specs.Code.{code_light}
use Rattle.position.proofs.PositionLaws.{position_is}
use Rattle.position.proofs.PeakLaws.{thousand_position}
use Rattle.eetf.specs.Curve.{bent_light, mapped_light}
use Rattle.eetf.proofs.SplineLaws.{curve_end}
use Rattle.eetf.proofs.CurveLaws.{bent_at_lem, peak_above, peak_near}
use Rattle.hlg_steps.specs.StepTable.{step_table, step}
use Rattle.hlg.specs.Code.{luminance, reaches, hlg_code}
use Rattle.pixel.specs.Conversion.{bent_of, mapped_of, code_of, lights, brightest_light, brightest_position, code}
use Rattle.pixel.specs.CornerPixels.{Converts, CornerPixels}
use Rattle.pixel.proofs.PixelLaws.{mapped_by, bent_of_light, brightest_lit, code_dark}

-- ten bits in narrow range
abbrev narrow : SampleFormat
narrow = coded Ten Narrow

-- all that a code is computed by
computed : Source → Pixel → Component → ℕ
unfolding largest units thousand light_table light_entry light_at code_light bent_light mapped_light step_table step reaches hlg_code brightest_position code
computed = code

-- ---- a peak of 1,000 cd/m2: document 002's colours, and the first code
colours :
    Converts 1000 (pixel 723 64 64) 976 64 64 ×
    Converts 1000 (pixel 64 723 64) 64 950 64 ×
    Converts 1000 (pixel 64 64 723) 64 64 1015 ×
    Converts 1000 (pixel 723 723 64) 942 942 64 ×
    Converts 1000 (pixel 64 723 723) 64 948 948 ×
    Converts 1000 (pixel 723 64 723) 970 64 970 ×
    Converts 1000 (pixel 723 723 723) 940 940 940 ×
    Converts 1000 (pixel 65 65 65) 65 65 65
unfolding computed
colours = (
  record { to_red = refl; to_green = refl; to_blue = refl },
  record { to_red = refl; to_green = refl; to_blue = refl },
  record { to_red = refl; to_green = refl; to_blue = refl },
  record { to_red = refl; to_green = refl; to_blue = refl },
  record { to_red = refl; to_green = refl; to_blue = refl },
  record { to_red = refl; to_green = refl; to_blue = refl },
  record { to_red = refl; to_green = refl; to_blue = refl },
  record { to_red = refl; to_green = refl; to_blue = refl },
)

-- a colour far above the peak, which no marked pixel is: luminance is weighed after the ratio, and all three keep the brightest one's ratio
hue_kept : Converts 1000 (pixel 940 512 300) 975 236 108
unfolding computed
hue_kept = record { to_red = refl; to_green = refl; to_blue = refl }

-- ---- black, under any peak
no_light_lem : (c : ℕ) → code_light narrow c ≡ 0 → brightest_light narrow (pixel c c c) ≡ 0
unfolding brightest_light
no_light_lem c h = omega arith

all_dark : (peak c : ℕ) → code_light narrow c ≡ 0 → Converts peak (pixel c c c) 64 64 64
all_dark peak c h =
    let d = code_dark (graded_at peak) (pixel c c c) (no_light_lem c h) in
    record { to_red = d red; to_green = d green; to_blue = d blue }

-- ---- past a peak above 1,000 cd/m2 the bent light is the light at the position of 1,000
abbrev end_light : ℕ
end_light = light_at 674406

at_end : (peak : ℕ) → 1000 < peak → bent_light peak (light_at 897024) 897024 ≡ end_light
unfolding last_position
at_end peak h =
    bent_at_lem peak h 897024
    ∙ ap light_at (curve_end (position_of thousand) (position_of (peak * units)) (peak_above peak h) (peak_near peak h) 897024
    (position_is (peak * units)).range)
    ∙ ap light_at thousand_position

-- a grey of light l keeps the light n that it is bent to
bright : (peak : ℕ) (x : Pixel) (m l n : ℕ) → ((i : Component) → x i ≡ l) → 0 < l → bent_of peak x m ≡ n
    → (i : Component) → code_of peak x m i ≡ hlg_code (luminance n n n) n
unfolding code_of
bright peak x m l n h pos e i = rw (kept red, kept green, kept blue, kept i)
  where
    kept : (i : Component) → mapped_of peak x m i ≡ n
    kept i =
        let top : brightest x ≡ l = omega (arith, h red, h green, h blue) in
        mapped_by peak x m i (h i) top e ∙ mul-div_cancel_left n pos

at_940 : hlg_code (luminance end_light end_light end_light) end_light ≡ 940
unfolding light_at light_entry light_table hlg_code reaches largest step step_table thousand units
at_940 = refl

shown : (peak c : ℕ) → 1000 < peak → code_light narrow c ≡ 167772160000 → brightest_position narrow (pixel c c c) ≡ 897024
    → Converts peak (pixel c c c) 940 940 940
unfolding code
shown peak c above h e = record { to_red = to red; to_green = to green; to_blue = to blue }
  where
    x : Pixel
    x = lights narrow (pixel c c c)

    m : ℕ
    m = brightest_position narrow (pixel c c c)

    bends : bent_of peak x m ≡ end_light
    bends = bent_of_light peak x m (brightest_lit narrow (pixel c c c)) ∙ ap (λ q. bent_light peak (light_at q) q) e ∙ at_end peak above

    to : (i : Component) → code_of peak x m i ≡ 940
    to i = bright peak x m 167772160000 end_light (elim [ red ↦ h | green ↦ h | blue ↦ h ]) (lit< tt) bends i ∙ at_940

pub corner_pixels : CornerPixels
unfolding computed
corner_pixels =
    record {
      black = all_dark 1000 64 refl;
      pure_red = colours.0;
      pure_green = colours.1;
      pure_blue = colours.2;
      yellow = colours.3;
      cyan = colours.4;
      magenta = colours.5;
      white = colours.6;
      below_black = all_dark 4000 4 refl;
      above_peak = shown 4000 1019 (omega arith) refl refl;
      full_signal = shown 10000 940 (omega arith) refl refl;
      first_code = colours.7;
    }
