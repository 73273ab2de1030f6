use Rattle.std.proofs.Common.{◌≡◌, ◌<◌, ℕ, Some}
use Rattle.cmwq_theory_steps.specs.Common.{slice_get}
use Rattle.cmwq_dispatch.specs.Resting.{IsEmpty}
use Rattle.cmwq_dispatch.specs.declared.resting.RestingWorkers.{RestingWorkers}
use Rattle.cmwq_dispatch.proofs.pools.clear_all.Given as goal

abbrev pub invariant-loop-place : goal.invariant-loop-place
invariant-loop-place l = (k : ℕ) (z : RestingWorkers) → k < l.place → slice_get l.pools k ≡ Some z → IsEmpty z
