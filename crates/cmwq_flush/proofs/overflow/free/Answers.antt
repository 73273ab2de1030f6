use Rattle.cmwq_flush.proofs.OverflowNodes.{in_none}
use Rattle.cmwq_flush.proofs.overflow.free.Goals as goal

pub push_back-requires-clause-free : goal.push_back-requires-clause-free
push_back-requires-clause-free c = rw c.remove.ensures.rest (in_none c.args.lists.now.lists c.args.node)
