use Rattle.std.proofs.Common.{◌≡◌, ℕ, ◌<◌, ◌≤◌, get_or}
use Rattle.cmwq_flush.specs.declared.flushes.Flushes.{Flushes}
use Rattle.cmwq_flush.specs.Queues.{IsKeptAs}
use Rattle.cmwq_flush.proofs.books.copy_queues.Given as goal

abbrev pub invariant-loop-index : goal.invariant-loop-index
invariant-loop-index l =
    record {
      copied : (q : ℕ) (d e : Flushes) → q < l.index → IsKeptAs (get_or l.queues q d) (get_or l.others q e);
      rest :
          (q : ℕ) (d : Flushes) → l.index ≤ q → get_or l.queues q d ≡ get_or l.fn.queues q d;
    }
