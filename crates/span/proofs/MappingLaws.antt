-- Laws of a pixel, of its mapped components and of their codes.
use Rattle.std.proofs.Common.{◌≡◌, ℕ, zero, suc, ◌*◌, ◌<◌, ◌≤◌, min, List, sym, ◌∙◌, ap, ap₂, arith}
use native.Mathlib.Nat.{div-zero}
use mathlib.Core.Path.{fun_ext}
use Rattle.laws.proofs.DivisionLaws.{floor_is}
use Rattle.quantity.specs.Units.{units, thousand, ten_thousand, last_position}
use Rattle.quantity.specs.declared.Rgb.{Rgb}
use Rattle.quantity.specs.declared.Source.{Source}
use Rattle.quantity.specs.Component.{Component, red, green, blue, Pixel, pixel, components, brightest}
use Rattle.pq.specs.LightTable.{light_table}
use Rattle.pq.specs.Pq.{entry_in}
use Rattle.position.specs.Position.{position_of}
use Rattle.eetf.specs.Curve.{peak_position_read, bent_light_in, bent_light, mapped_light}
use Rattle.eetf.proofs.CurveLaws.{bent_on_light_table}
use Rattle.eetf.proofs.BetweenLaws.{bent_any_le_thousand}
use Rattle.hlg.specs.Code.{luminance}
use Rattle.hlg.proofs.CodeLaws.{code_from, code_to, code_black}
use Rattle.pixel.specs.Conversion.{lights, brightest_light, brightest_position, bent_of, mapped_of, bent, mapped}
use Rattle.pixel.proofs.PixelLaws.{brightest_light_at_most, brightest_position_range, bent_at_most}
use Rattle.ycbcr.specs.declared.SignalFormat.{SignalFormat}
use Rattle.ycbcr.specs.Delivery.{in_format}
use Rattle.ycbcr.proofs.DeliveryLaws.{format_at_most}
use Rattle.ycbcr.proofs.YCbCrLaws.{InRange}
use Rattle.span.specs.Block.{IsShown, AreCodes, dark, codes_of}
use Rattle.span.specs.Linear.{mapped_lights}

-- a pixel by its three numbers
pub pixel_is : {x y z : ℕ} (p : Pixel) → x ≡ p red → y ≡ p green → z ≡ p blue → pixel x y z ≡ p
pixel_is p r g b = fun_ext (elim [ red ↦ r | green ↦ g | blue ↦ b ])

pub pixel_by : (m : Rgb ℕ) (p : Pixel) → ((i : Component) → components m i ≡ p i) → components m ≡ p
pixel_by m p e = pixel_is p (e red) (e green) (e blue)

-- a light stays where the brightest one does; where that is 0, so is the light
pub unbent_light : (c m n : ℕ) → c ≤ m → m ≡ n → c ≡ mapped_light c m n
unfolding mapped_light
unbent_light c zero n h e = let none : c ≡ 0 = omega arith in none ∙ sym (div-zero (c * n))
unbent_light c (suc m) n h e = let pos : 0 < suc m = omega arith in (floor_is pos).1 (omega (arith, ap (λ k. c * k) e), omega (arith, ap (λ k. c * k) e))

pub component_at_most : (m : Rgb ℕ) (i : Component) → components m i ≤ brightest (components m)
component_at_most m red = omega arith
component_at_most m green = omega arith
component_at_most m blue = omega arith

-- what is shown of a pixel of codes, and of one of lights
pub shown_by : (m : Rgb ℕ) (p : Pixel) → components m ≡ p → ((i : Component) → p i ≤ thousand) → IsShown m
shown_by m p e most =
    let at : (i : Component) → components m i ≤ thousand = λ i. rw e (most i) in
    record { red = at red; green = at green; blue = at blue }

-- ---- a pixel of codes: its lights x, the brightest of them M, which is bent to N
module _ (source : Source) (p : Pixel) (x : Rgb ℕ) (e : (i : Component) → components x i ≡ lights source.format p i) where
  pub brightest_is : brightest (components x) ≡ brightest_light source.format p
  unfolding brightest_light
  brightest_is = ap brightest (pixel_by x (lights source.format p) e)

  module _ {M m w N : ℕ} (l : List ℕ) (el : l ≡ light_table) (ew : w ≡ position_of (source.peak * units)) (eM : M ≡ brightest (components x))
      (em : m ≡ brightest_position source.format p)
      (eN : N ≡ bent_light_in (entry_in l) source.peak (peak_position_read w) (min M ten_thousand) (min m last_position)) where
    pub bent_is : N ≡ bent source p
    unfolding bent bent_of
    bent_is =
        eN
        ∙ bent_on_light_table l source.peak w (min M ten_thousand) (min m last_position) el ew
        ∙ ap₂ (bent_light source.peak) (omega (arith, eM, brightest_is, brightest_light_at_most source.format p))
        (omega (arith, brightest_position_range source.format p))

    pub bounds : (M ≡ brightest (components x)) × (M ≤ ten_thousand) × (N ≤ thousand)
    bounds = (eM, omega (arith, brightest_is, brightest_light_at_most source.format p), omega (arith, bent_is, bent_at_most source p))

    pub codes_mapped : (r : Rgb ℕ) → ((i : Component) → components r i ≡ mapped_light (components x i) M N) → components r ≡ mapped source p
    unfolding mapped mapped_of bent brightest_light
    codes_mapped r h =
        pixel_by r (mapped source p)
        (λ i. h i ∙ ap (λ (c : ℕ). mapped_light c M N) (e i) ∙ ap₂ (mapped_light (lights source.format p i)) (eM ∙ brightest_is) bent_is)

-- ---- a pixel of lights x, the brightest of them M, which is bent to N
module _ (peak : ℕ) (x : Rgb ℕ) {M N : ℕ} (eM : M ≡ brightest (components x)) (eN : N ≡ bent_light peak M (position_of M)) where
  pub lights_bounds : ((i : Component) → components x i ≤ ten_thousand) → (M ≡ brightest (components x)) × (M ≤ ten_thousand) × (N ≤ thousand)
  lights_bounds most = (eM, omega (arith, eM, most red, most green, most blue), omega (arith, eN, bent_any_le_thousand peak M))

  pub lights_mapped : (r : Rgb ℕ) → ((i : Component) → components r i ≡ mapped_light (components x i) M N) → components r ≡ mapped_lights peak (components x)
  unfolding mapped_of bent_of
  lights_mapped r h =
      pixel_by r (mapped_lights peak (components x))
      (λ i. h i ∙ ap₂ (mapped_light (components x i)) eM (eN ∙ ap (λ (l : ℕ). bent_light peak l (position_of l)) eM))

-- ---- the codes of mapped components
pub dark_coded : (m : Rgb ℕ) → m ≡ dark → pixel 64 64 64 ≡ codes_of (components m)
dark_coded m e = let black = sym (code_black (luminance 0 0 0)) in rw e (pixel_is (codes_of (components dark)) black black black)

pub are_codes : (c : Rgb ℕ) (p : Pixel) → components c ≡ codes_of p → AreCodes c
are_codes c p e =
    let Y = luminance (p red) (p green) (p blue) in
    let from : (i : Component) → 64 ≤ components c i = λ i. rw e (code_from Y (p i)) in
    let to : (i : Component) → components c i ≤ 1019 = λ i. rw e (code_to Y (p i)) in
    record { red = (from red, to red); green = (from green, to green); blue = (from blue, to blue) }

pub coded_fit : (format : SignalFormat) (s m : Rgb ℕ) → components s ≡ in_format format (codes_of (components m))
    → (s.red ≤ 1019) × (s.green ≤ 1019) × (s.blue ≤ 1019)
coded_fit format s m e =
    let p = components m in
    let Y = luminance m.red m.green m.blue in
    let within : InRange (codes_of p) = record { least = λ i. code_from Y (p i); most = λ i. code_to Y (p i) } in
    let top : (i : Component) → components s i ≤ 1019 = λ i. rw e (format_at_most format (codes_of p) within i) in
    (top red, top green, top blue)
