use Rattle.cmwq_core.specs.History.{past_in}
use Rattle.cmwq_dispatch.proofs.EachPool.{Toured}
use Rattle.cmwq_dispatch.proofs.pools.look_everywhere.Given as goal

abbrev pub invariant-loop-place : goal.invariant-loop-place
invariant-loop-place l =
    Toured l.execution.layout (past_in l.execution) l.place l.initial.pools l.pools l.initial.wakes l.wakes
