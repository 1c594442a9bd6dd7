-- The rule of the HLG steps (scope, HLG code: T[d]): the smallest scene light, in 1/2^40, whose HLG signal is at least e = (2d − 129)/1752.
use Rattle.std.specs.Prelude.{◌⊎◌, List, ℕ, min, ◌-◌, ◌*◌, ◌^◌, ◌≤◌, ◌<◌, get_or}
use Rattle.std.proofs.Common.{zero-lt-suc, pow_pos}
use Rattle.laws.specs.Fraction.{Fraction, over}
use Rattle.laws.specs.Side.{Side, low, high, At}
use Rattle.hlg_steps.specs.Signal.{Logarithm}

-- the step of code d in a table of 955, whatever they are; a code below 65 or above 1,019 reads the nearer end
abbrev pub step_in : List ℕ → ℕ → ℕ
step_in t d = get_or t (min (d - 65) 954) 0

-- s units of scene light
abbrev pub scene : ℕ → Fraction
scene s = over s (2 ^ 40) (pow_pos 40)

-- e, the signal from which a rounded code is d or more
abbrev pub threshold_signal : ℕ → Fraction
threshold_signal d = over (2 * d - 129) 1752 (zero-lt-suc 1751)

-- e is on the side s of the signal of scene light u: the square branch up to code 502, the logarithm from 503 on
unfoldable pub Threshold : Side → ℕ → ℕ → Type 0
Threshold s d u =
    ((d ≤ 502) × At s ((2 * d - 129) ^ 2 * 2 ^ 40) (3 * u * 1752 ^ 2)) ⊎
    ((502 < d) × Logarithm s (scene u) (threshold_signal d))

-- t is the step of code d: e is a lower fraction of its signal, no smaller light has it so, and of the light one below e is an upper fraction
pub record IsStep (d t : ℕ) : Type 0 where
  pub reached : Threshold low d t
  pub smallest : (u : ℕ) → Threshold low d u → t ≤ u
  pub short : Threshold high d (t - 1)
