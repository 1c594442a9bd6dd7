-- Luma and chroma of three RGB codes (request 04): BT.2100's Y'C'BC'R, ten bits, narrow range, made of finished codes and not of signals before
-- they were rounded. With r, g, b for the codes less 64 the signals are R' = r/876 and B' = b/876.
use Rattle.std.specs.Prelude.{ℕ, ◌-◌, ◌<◌}
use Rattle.std.proofs.Common.{zero-lt-suc}
use Rattle.laws.specs.Fraction.{Fraction, over, whole}
use Rattle.quantity.specs.Component.{red, blue, Pixel, pixel, weighted}
use Rattle.ycbcr.specs.Rounding.{plus, decimal, ◌⊖◌, ◌⊙◌, divided, ◌+round◌}

-- r, g, b
abbrev pub above_black : Pixel → Pixel
above_black p i = p i - 64

-- R' or B' of a code
abbrev pub signal : ℕ → Fraction
signal d = over (d - 64) 876 (zero-lt-suc 875)

-- Y', not rounded
abbrev pub luma_signal : Pixel → Fraction
luma_signal p = over (weighted (above_black p)) 8760000 (zero-lt-suc 8759999)

-- 64 + round((2627 r + 6780 g + 593 b) / 10000)
unfoldable pub luma : Pixel → ℕ
luma p = 64 +round plus (over (weighted (above_black p)) 10000 (zero-lt-suc 9999))

-- 512 + round(896 (E' − Y') / k), where E' is the signal of a code d
abbrev pub chroma : ℕ → Pixel → (k : Fraction) → 0 < k.num → ℕ
chroma d p k above = 512 +round divided ((signal d ⊖ luma_signal p) ⊙ whole 896) k above

-- of B' over 1.8814, and of R' over 1.4746
unfoldable pub cb : Pixel → ℕ
cb p = chroma (p blue) p (decimal 1 8814) (zero-lt-suc 18813)

unfoldable pub cr : Pixel → ℕ
cr p = chroma (p red) p (decimal 1 4746) (zero-lt-suc 14745)

-- the three in their order: luma, Cb, Cr stand where red, green, blue stood
abbrev pub ycbcr : Pixel → Pixel
ycbcr p = pixel (luma p) (cb p) (cr p)
