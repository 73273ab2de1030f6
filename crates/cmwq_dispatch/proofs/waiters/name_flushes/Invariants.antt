use Rattle.cmwq_core.specs.History.{past_in}
use Rattle.cmwq_model.specs.Prelude.{is_flush_of}
use Rattle.cmwq_dispatch.proofs.Flushed.{Progress}
use Rattle.cmwq_dispatch.proofs.waiters.name_flushes.Given as goal

abbrev pub invariant-loop-place : goal.invariant-loop-place
invariant-loop-place l =
    Progress l.execution.layout (past_in l.execution) (is_flush_of l.queue.0) l.initial.wakes l.initial.flushes l.place
    l.flushes l.wakes
