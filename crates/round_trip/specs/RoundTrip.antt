-- Greys sent to PQ and converted again (request 08), in ten bits and narrow range: from the HLG code of a grey to PQ by the return path, and from
-- there to HLG by the conversion under a peak of 1,000 cd/m2.
use Rattle.std.specs.Prelude.{◌≡◌, Bool, cond, ℕ, zero, suc, ◌+◌, ◌≤◌, eqb}
use Rattle.quantity.specs.Component.{Component}
use Rattle.quantity.specs.Source.{graded_at}
use Rattle.pixel.specs.Conversion.{code}
use Rattle.return_pixel.specs.Conversion.{pq_codes}

-- the HLG codes that come back of the grey of code d
unfoldable pub returned_grey : ℕ → Component → ℕ
returned_grey d = code (graded_at 1000) (pq_codes (λ k. d))

-- from black to nominal peak every grey comes back within n codes
abbrev pub Within : ℕ → Type 0
Within n = (d : ℕ) → 64 ≤ d → d ≤ 940 → (i : Component) → (d ≤ returned_grey d i + n) × (returned_grey d i ≤ d + n)

-- of n codes from d on, how many pass a test
abbrev pub counted : (ℕ → Bool) → ℕ → ℕ → ℕ
counted f d zero = 0
counted f d (suc n) = cond (f d) 1 0 + counted f (suc d) n

-- of those 877 greys so many come back equal, one code below and one above
pub record Counts (equal below above : ℕ) : Type 0 where
  pub come_equal : (i : Component) → counted (λ d. eqb (returned_grey d i) d) 64 877 ≡ equal
  pub come_below : (i : Component) → counted (λ d. eqb (returned_grey d i + 1) d) 64 877 ≡ below
  pub come_above : (i : Component) → counted (λ d. eqb (returned_grey d i) (d + 1)) 64 877 ≡ above
