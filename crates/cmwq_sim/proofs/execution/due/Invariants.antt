use Rattle.std.proofs.Common.{◌≡◌, ◌==◌, ◌&&◌, find, take, None}
use Rattle.cmwq_sim.proofs.execution.due.Given as goal

abbrev pub invariant-loop-sleeper : goal.invariant-loop-sleeper
invariant-loop-sleeper l = find (λ x. (x.item == l.item) && (x.until == l.at)) (take l.sleeper-index l.sleeping) ≡ None
