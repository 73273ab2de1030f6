use Rattle.cmwq_core.specs.History.{past_in}
use Rattle.cmwq_model.specs.declared.record.Ticket.{Ticket}
use Rattle.cmwq_theory_wakes.specs.Readiness.{may_release}
use Rattle.cmwq_dispatch.proofs.Flushed.{Progress}
use Rattle.cmwq_dispatch.proofs.waiters.name_released.Given as goal

abbrev pub invariant-loop-place : goal.invariant-loop-place
invariant-loop-place l =
    Progress l.execution.layout (past_in l.execution) (λ (t : Ticket). may_release t.call l.ended) l.initial.wakes
    l.initial.waiters l.place l.waiters l.wakes
