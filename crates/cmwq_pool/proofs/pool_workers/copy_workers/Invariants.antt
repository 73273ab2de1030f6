use Rattle.std.proofs.Common.{◌≡◌, ℕ, ◌<◌, ◌≤◌, [], slice_index_or}
use Rattle.cmwq_pool.proofs.pool_workers.copy_workers.Given as goal

abbrev pub invariant-loop-pool : goal.invariant-loop-pool
invariant-loop-pool l =
    record {
      copied : (p : ℕ) → p < l.pool → slice_index_or l.workers p [] ≡ slice_index_or l.others p [];
      rest :
          (p : ℕ) → l.pool ≤ p → slice_index_or l.workers p [] ≡ slice_index_or l.fn.workers p [];
    }
