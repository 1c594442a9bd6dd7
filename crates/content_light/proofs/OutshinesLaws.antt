-- Laws of what outshines what: by light, and for positions by their ranks.
use mathlib.Core.Path.{◌≡◌, sym, ◌∙◌}
use mathlib.Core.Bool.{true, false}
use Prim.Native.Nat.{ℕ, ◌≤◌}
use native.Mathlib.Nat.{lt_of_not-le}
use native.Mathlib.Decide.{dec_le}
use lib.Dec.{leb}
use native.Mathlib.Omega.{arith}
use borrow.Author.Tests.{leb-true, leb-false, le-leb, lt-leb}
use Rattle.quantity.specs.Units.{last_position}
use Rattle.position.specs.Position.{light_at}
use Rattle.content_light.specs.Peak.{outshines}
use Rattle.content_light.specs.Rank.{light_rank}
use Rattle.content_light.proofs.RankLaws.{rank_le, rank_lt}

-- what outshines has no less light, what does not has no more; of equals the later does
pub outshines_le : (light found : ℕ) → outshines light found ≡ true → found ≤ light
unfolding outshines
outshines_le light found h = leb-true found light h

pub outshone_le : (light found : ℕ) → outshines light found ≡ false → light ≤ found
unfolding outshines
outshone_le light found h = omega (arith, leb-false found light h)

pub equal_taken : (light : ℕ) → outshines light light ≡ false → ⊥
unfolding outshines
equal_taken light h = omega (arith, leb-false light light h)

-- where a light does not outshine, no smaller one does
pub dimmer : (light brighter found : ℕ) → light ≤ brighter → outshines brighter found ≡ false → outshines light found ≡ false
unfolding outshines
dimmer light brighter found h e = lt-leb found light (omega (arith, leb-false found brighter e))

-- one that is as bright does; where a light does not outshine, it does not outshine a brighter one
pub as_bright : (light found : ℕ) → found ≤ light → outshines light found ≡ true
unfolding outshines
as_bright light found h = le-leb found light h

pub dimmer_still : (light found brighter : ℕ) → found ≤ brighter → outshines light found ≡ false → outshines light brighter ≡ false
unfolding outshines
dimmer_still light found brighter h e = lt-leb brighter light (omega (arith, leb-false found light e))

-- positions by their ranks
pub by_ranks : (m found : ℕ) → found ≤ last_position → leb (light_rank found) (light_rank m) ≡ outshines (light_at m) (light_at found)
unfolding outshines
by_ranks m found last = go (dec_le (light_rank found) (light_rank m))
  where
    go : Dec (light_rank found ≤ light_rank m) → leb (light_rank found) (light_rank m) ≡ leb (light_at found) (light_at m)
    go (yes h) = le-leb _ _ h ∙ sym (le-leb _ _ (rank_le found m h))
    go (no h) = let l = lt_of_not-le h in lt-leb _ _ l ∙ sym (lt-leb _ _ (rank_lt m found last l))
