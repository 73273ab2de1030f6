-- Those that were looked at are told.
use Rattle.cmwq_c.specs.Wakes.{worker_numbers, nobody_numbers}
use Rattle.cmwq_c.proofs.Filled.{AreTold}
use Rattle.cmwq_c.proofs.wakes.worker_numbers.Given as goal

abbrev pub invariant-loop-worker : goal.invariant-loop-worker
invariant-loop-worker l = AreTold worker_numbers nobody_numbers 8 l.named l.worker-index l.place l.told
