use Rattle.std.proofs.Common.{◌≡◌}
use Rattle.cmwq_flush.proofs.OverflowNodes.{free_nodes}
use Rattle.cmwq_flush.proofs.overflow.Overflow.new.Given as goal

abbrev pub invariant-loop-place : goal.invariant-loop-place
invariant-loop-place l = l.lists ≡ record { items = l.room; lists = free_nodes l.place l.queues }
