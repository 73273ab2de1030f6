use Rattle.cmwq_engine.specs.Common.{◌≡◌, ◌+◌}
use Rattle.cmwq_engine.proofs.start.lend_callers.Given as goal

abbrev pub invariant-loop : goal.invariant-loop
invariant-loop g l = l.participants ≡ record l.fn.participants { callers = l.fn.participants.callers + l.counter }
