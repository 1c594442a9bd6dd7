-- The scene light of an HLG code (request 08: inverse OETF), in 1/2^40 of the nominal range, to the nearest. BT.2100's inverse HLG OETF, said by the OETF:
-- the light whose HLG signal is the code's.
use Rattle.std.specs.Prelude.{List, ℕ, min, ◌+◌, ◌-◌, ◌*◌, ◌^◌, get_or}
use Rattle.std.proofs.Common.{zero-lt-suc, pow_pos}
use Rattle.laws.specs.Fraction.{Fraction, over}
use Rattle.laws.specs.Side.{low, high}
use Rattle.hlg_steps.specs.Signal.{HlgSignal}

-- the scene light of code d in a table of 956, whatever they are; a code below 64 or above 1,019 reads the nearer end
abbrev pub scene_light_in : List ℕ → ℕ → ℕ
scene_light_in t d = get_or t (min (d - 64) 955) 0

-- the signal of code d
abbrev pub hlg_signal : ℕ → Fraction
hlg_signal d = over (d - 64) 876 (zero-lt-suc 875)

-- the scene lights whose nearest whole unit is s: from s − 1/2 on, below s + 1/2. No light is below 0, so for s = 0 from 0 on
abbrev pub lower_end : ℕ → Fraction
lower_end s = over (2 * s - 1) (2 ^ 41) (pow_pos 41)

abbrev pub upper_end : ℕ → Fraction
upper_end s = over (2 * s + 1) (2 ^ 41) (pow_pos 41)

-- s is the scene light of code d: the signal of s − 1/2 is at most the code's, and that of s + 1/2 is above it
pub record IsSceneLight (d s : ℕ) : Type 0 where
  pub from : HlgSignal high (lower_end s) (hlg_signal d)
  pub to : HlgSignal low (upper_end s) (hlg_signal d)
  pub not_at : HlgSignal high (upper_end s) (hlg_signal d) → ⊥
