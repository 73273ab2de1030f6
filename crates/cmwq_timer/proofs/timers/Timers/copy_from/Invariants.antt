use Rattle.std.proofs.Common.{◌≡◌, ℕ, ◌<◌, length}
use Rattle.cmwq_timer.specs.Rows.{timer_of}
use Rattle.cmwq_timer.proofs.timers.Timers.copy_from.Given as goal

abbrev pub invariant-loop-number : goal.invariant-loop-number
invariant-loop-number l =
    record {
      many : length l.self ≡ length l.other;
      copied :
          (i : ℕ) → i < l.number → timer_of l.self i ≡ timer_of l.other i;
    }
