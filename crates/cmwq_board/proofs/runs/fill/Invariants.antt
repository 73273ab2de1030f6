use Rattle.std.proofs.Common.{◌≡◌, take, vec_capacity}
use Rattle.cmwq_core.specs.History.{past_in}
use Rattle.cmwq_board.specs.Runs.{waits_in}
use Rattle.cmwq_board.proofs.runs.fill.Given as goal

abbrev pub invariant-loop-lending : goal.invariant-loop-lending
invariant-loop-lending l = (l.waits.items ≡ waits_in (past_in l.execution) (take l.lending-index l.lent))
    × (vec_capacity l.waits ≡ vec_capacity l.fn.waits)
