use Rattle.cmwq_sim.specs.Common.{◌≡◌, ◌≤◌, ◌*◌, take, sum}
use Rattle.cmwq_sim.proofs.times.time_of.Given as goal

abbrev pub invariant-loop-part : goal.invariant-loop-part
invariant-loop-part l = (l.time ≡ sum (take l.part-index l.ms)) × (l.time ≤ 1000 * l.part-index)
