use Rattle.std.proofs.Common.{◌<◌, length}
use Rattle.cmwq_explore.proofs.chance.Order.first_of.Given as goal

abbrev pub invariant-loop-place : goal.invariant-loop-place
invariant-loop-place l = l.first < length l.movers
