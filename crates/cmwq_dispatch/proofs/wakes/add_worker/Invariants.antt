use Rattle.std.proofs.Common.{◌≡◌}
use Rattle.cmwq_dispatch.proofs.wakes.add_worker.Given as goal

abbrev pub invariant-loop-place : goal.invariant-loop-place
invariant-loop-place l = l.places ≡ l.initial.places
