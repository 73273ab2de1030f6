-- Which pools an entry may touch, read off its call, its reply and the queueing that it ends.
use Rattle.std.specs.Prelude.{◌≡◌, ◌⊎◌, if◌then◌else◌}
use Rattle.cmwq_theory_steps.specs.Common.{Option, Some, None, PoolId, Who, Caller, Worker, Reply, Entry, Place}
use Rattle.cmwq_theory_steps.specs.Common.{Queueing, Layout, pool_at, place_called}
use Rattle.cmwq_model.specs.declared.reply.Reply.TheVariants as reply
use Rattle.cmwq_theory_steps.specs.Histories.{OfEntries}
use Rattle.cmwq_theory_steps.specs.Endings.{ending}
use Rattle.cmwq_theory_wakes.specs.Starting.{Touches, is_finish}

-- A reach is no pool, one pool, or every pool.
pub data Reach : Type 0 where
  nowhere : Reach
  only : PoolId → Reach
  everywhere : Reach

abbrev pub Reaches : Reach → PoolId → Type 0
Reaches nowhere p = ⊥
Reaches (only q) p = q ≡ p
Reaches everywhere p = Unit {0}

abbrev pub own_pool : Who → Reach
own_pool (Worker w) = only w.pool
own_pool (Caller c) = nowhere

abbrev pub pool_called : Layout → Option Place → Reach
pool_called s (Some p) = only (pool_at s p)
pool_called s None = nowhere

-- A worker that leaves the next queueing reaches its own pool. A call that queues an item reaches the pool of the place
-- that it names. A fire, a flush that queues a booked item, a change of max_active and a thaw reach every pool.
abbrev pub reach_by_reply : Layout → Entry → Reply → Reach
reach_by_reply s e (reply.Started n) = own_pool e.who
reach_by_reply s e (reply.StartedEnlist n x) = own_pool e.who
reach_by_reply s e reply.Slept = own_pool e.who
reach_by_reply s e reply.Retired = own_pool e.who
reach_by_reply s e (reply.Yes k) = pool_called s (place_called e.call)
reach_by_reply s e (reply.Again k) = pool_called s (place_called e.call)
reach_by_reply s e (reply.Fired i k) = everywhere
reach_by_reply s e (reply.TicketQueued k) = everywhere
reach_by_reply s e (reply.Width n) = everywhere
reach_by_reply s e reply.Thawed = everywhere
reach_by_reply s e r = nowhere

-- The end of a queueing reaches the pool of the queueing, unless it is a finish.
abbrev pub reach_by_ending : Layout → Entry → Option Queueing → Reach
reach_by_ending s e None = nowhere
reach_by_ending s e (Some x) = if is_finish e.reply then nowhere else only (pool_at s x.place)

-- Every pool that an entry touches is reached by its reply or by what it ends.
abbrev pub ReachSuffices : Type 0
ReachSuffices = OfEntries (λ s past e. (p : PoolId) → Touches s past e p
    → Reaches (reach_by_reply s e e.reply) p ⊎ Reaches (reach_by_ending s e (ending past e)) p)
