-- A pixel of a declared source, converted (scope, The highlight curve and HLG code): from three lights and the position of the brightest, then
-- from codes of a depth and range, which have these. Lights in units, positions in 1/897,024.
use Rattle.std.specs.Prelude.{ℕ}
use Rattle.quantity.specs.declared.sample_format.SampleFormat.{SampleFormat}
use Rattle.quantity.specs.declared.Source.{Source}
use Rattle.quantity.specs.Component.{Component, red, green, blue, Pixel, brightest}
use Rattle.position.specs.Code.{code_position, code_light}
use Rattle.eetf.specs.Curve.{bent_light, mapped_light}
use Rattle.hlg.specs.Code.{luminance, hlg_code}

-- ---- x are the lights, M1 the largest of them, m the position of the brightest
-- M2
unfoldable pub bent_of : ℕ → Pixel → ℕ → ℕ
bent_of peak x m = bent_light peak (brightest x) m

-- the mapped components
unfoldable pub mapped_of : ℕ → Pixel → ℕ → Component → ℕ
mapped_of peak x m i = mapped_light (x i) (brightest x) (bent_of peak x m)

-- the HLG codes
unfoldable pub code_of : ℕ → Pixel → ℕ → Component → ℕ
code_of peak x m i =
    let r = mapped_of peak x m in
    hlg_code (luminance (r red) (r green) (r blue)) (r i)

-- ---- p are codes
abbrev pub lights : SampleFormat → Pixel → Pixel
lights f p i = code_light f (p i)

unfoldable pub brightest_light : SampleFormat → Pixel → ℕ
brightest_light f p = brightest (lights f p)

unfoldable pub brightest_position : SampleFormat → Pixel → ℕ
brightest_position f p = code_position f (brightest p)

unfoldable pub bent : Source → Pixel → ℕ
unfolding bent_of brightest_light
bent source p = bent_of source.peak (lights source.format p) (brightest_position source.format p)

unfoldable pub mapped : Source → Pixel → Component → ℕ
unfolding mapped_of bent
mapped source p = mapped_of source.peak (lights source.format p) (brightest_position source.format p)

unfoldable pub code : Source → Pixel → Component → ℕ
unfolding code_of mapped
code source p = code_of source.peak (lights source.format p) (brightest_position source.format p)
