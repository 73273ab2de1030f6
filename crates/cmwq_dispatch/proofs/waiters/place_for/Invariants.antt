use Rattle.std.proofs.Common.{◌≡◌, ◌≤◌, ℕ, Some, length}
use Rattle.cmwq_theory_steps.specs.Common.{slice_get}
use Rattle.cmwq_dispatch.specs.declared.waiters.Waiter.{Waiter}
use Rattle.cmwq_dispatch.proofs.waiters.place_for.Given as goal

abbrev pub invariant-loop-place : goal.invariant-loop-place
invariant-loop-place l = record {
  within : l.place ≤ length l.waiters;
  after : (k : ℕ) (w : Waiter) → l.place ≤ k → slice_get l.waiters k ≡ Some w → l.number ≤ w.ticket.number;
}

abbrev pub decreases-loop-place : goal.decreases-loop-place
decreases-loop-place l = l.place
