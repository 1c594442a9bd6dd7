-- A number by which positions compare as their lights do (`RankLaws`): only private functions cite this. Light in units, positions in 1/897,024.
use Rattle.std.specs.Prelude.{ℕ, cond, leb}
use Rattle.position.specs.Position.{light_at}

-- the position from the light table's third entry on, where the light rises from each to the next; below that entry the light itself
unfoldable pub light_rank : ℕ → ℕ
light_rank q = cond (leb 512 q) q (light_at q)
