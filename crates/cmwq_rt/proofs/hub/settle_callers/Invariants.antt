use Rattle.cmwq_rt.proofs.Settling.{Done, Left}
use Rattle.cmwq_rt.proofs.hub.settle_callers.Given as goal

abbrev pub invariant-loop-caller : goal.invariant-loop-caller
invariant-loop-caller g l = Done l.fn.monitor.history l.fn.callers l.callers l.caller-index
    × Left l.fn.callers l.callers l.caller-index
