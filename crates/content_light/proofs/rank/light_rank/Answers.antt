-- `content_light::rank::light_rank` meets its contract.
use native.Mathlib.Omega.{arith}
use Rattle.content_light.proofs.RankLaws.{rank_first, rank_second, rank_bright}
use Rattle.content_light.proofs.rank.light_rank.Goals as goal

pub returns-then-q-ge512 : goal.returns-then-q-ge512
returns-then-q-ge512 c = rank_bright _ (omega (arith, c.if-q-ge512.true))

pub returns-then-q-ge256 : goal.returns-then-q-ge256
returns-then-q-ge256 c = rank_second _ c.if-q-ge256.true (omega (arith, c.if-q-ge512.false))

pub returns : goal.returns
returns c = rank_first _ (omega (arith, c.if-q-ge256.false))
