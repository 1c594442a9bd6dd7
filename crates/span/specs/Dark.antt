-- Codes up to black are mapped to no light in any format, so three numbers of 0 are, and as lights too. The two kinds of rows cite the last three.
use Rattle.std.proofs.Common.{◌≡◌, ℕ, ◌≤◌, refl, arith}
use mathlib.Core.Path.{fun_ext}
use Rattle.quantity.specs.declared.sample_format.SampleFormat.{SampleFormat}
use Rattle.quantity.specs.declared.Source.{Source}
use Rattle.quantity.specs.SampleFormat.{black}
use Rattle.quantity.specs.Component.{Component, red, green, blue, Pixel, pixel}
use Rattle.position.specs.Position.{position_of}
use Rattle.position.specs.Code.{code_light}
use Rattle.position.proofs.CodeLaws.{black_light}
use Rattle.pixel.specs.Conversion.{brightest_light, mapped}
use Rattle.pixel.proofs.PixelLaws.{mapped_dark, mapped_of_none}
use Rattle.span.specs.Linear.{mapped_lights}

no_light_lem : (f : SampleFormat) (p : Pixel) → ((i : Component) → p i ≤ black f) → brightest_light f p ≡ 0
unfolding brightest_light
no_light_lem f p h =
    let dark : (i : Component) → code_light f (p i) ≡ 0 = λ i. black_light f (p i) (omega (arith, h i)) in
    omega (arith, dark red, dark green, dark blue)

pub dark_mapped : (source : Source) (p : Pixel) → ((i : Component) → p i ≤ black source.format) → mapped source p ≡ pixel 0 0 0
dark_mapped source p h =
    let none = mapped_dark source p (no_light_lem source.format p h) in
    fun_ext (elim [ red ↦ none red | green ↦ none green | blue ↦ none blue ])

pub zero_mapped : (source : Source) → mapped source (pixel 0 0 0) ≡ pixel 0 0 0
zero_mapped source = dark_mapped source (pixel 0 0 0) (elim [ red ↦ omega arith | green ↦ omega arith | blue ↦ omega arith ])

-- three codes of black
pub black_mapped : (source : Source) → let d = black source.format in mapped source (pixel d d d) ≡ pixel 0 0 0
black_mapped source =
    let d = black source.format in
    dark_mapped source (pixel d d d) (elim [ red ↦ omega arith | green ↦ omega arith | blue ↦ omega arith ])

pub no_light_mapped : (peak : ℕ) → mapped_lights peak (pixel 0 0 0) ≡ pixel 0 0 0
no_light_mapped peak =
    let none = mapped_of_none peak (pixel 0 0 0) (position_of 0) refl in
    fun_ext (elim [ red ↦ none red | green ↦ none green | blue ↦ none blue ])
