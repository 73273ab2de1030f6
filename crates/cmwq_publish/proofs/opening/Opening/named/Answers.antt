use Rattle.cmwq_publish.proofs.Legally.{none_is_legal}
use Rattle.cmwq_publish.proofs.opening.Opening.named.Goals as goal

pub of-requires-clause-legal : goal.of-requires-clause-legal
of-requires-clause-legal g c = none_is_legal _ _ c.self.invariant.0
