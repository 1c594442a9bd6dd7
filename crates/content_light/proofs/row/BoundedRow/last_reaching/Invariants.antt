use Rattle.content_light.proofs.SearchLaws.{Behind}
use Rattle.content_light.proofs.row.BoundedRow.last_reaching.Given as goal

-- no pixel from j on reaches the position
abbrev pub invariant-loop-j : goal.invariant-loop-j
invariant-loop-j l = Behind l.self.format l.self.bytes.now l.m.0 l.j
