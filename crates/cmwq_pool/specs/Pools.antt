-- The pools of a system, numbered from 0.
use Rattle.std.specs.Prelude.{◌≡◌, ◌&&◌}
use Rattle.cmwq_pool.specs.Common.{ℕ, Bool, not, List, [], length, nat_lt, slice_index_or, slice_set}
use Rattle.cmwq_pool.specs.Common.{list_any}
use Rattle.cmwq_pool.specs.Slots.{is_task_of}
use Rattle.cmwq_pool.specs.PoolState.{PoolState}

-- what stands for a pool that there isn't
abbrev pub no_pool : PoolState
no_pool = record { items = 0; listed = []; slots = [] }

abbrev pub pool_numbered : List PoolState → ℕ → PoolState
pool_numbered pools p = slice_index_or pools p no_pool

-- one pool changes, and no other
abbrev pub with_pool : (PoolState → PoolState) → ℕ → List PoolState → List PoolState
with_pool change p pools = slice_set pools p (change (pool_numbered pools p))

-- an item may be listed in a pool if it is one of those there are, and no pool lists it
abbrev pub lists_item : ℕ → PoolState → Bool
lists_item i p = list_any (is_task_of i) p.listed

abbrev pub may_list : List PoolState → ℕ → ℕ → Bool
may_list pools p i = nat_lt i (pool_numbered pools p).items && not (list_any (lists_item i) pools)

-- there are as many pools of both, and each has as many items and workers as its counterpart
pub record AreOfOneShape (one other : List PoolState) : Type 0 where
  pub many : length one ≡ length other
  pub items : (p : ℕ) → (pool_numbered one p).items ≡ (pool_numbered other p).items
  pub workers : (p : ℕ) → length (pool_numbered one p).slots ≡ length (pool_numbered other p).slots
