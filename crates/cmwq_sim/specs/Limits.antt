-- What a plan keeps to.
use Rattle.std.specs.Prelude.{◌<◌, ◌≤◌}
use Rattle.cmwq_sim.specs.Common.{ℕ, length, AllByRecursion}
use Rattle.cmwq_sim.specs.declared.scenario.SimQueue.{SimQueue}
use Rattle.cmwq_sim.specs.Plan.{Plan, Item}

abbrev pub IsBetween : ℕ → ℕ → ℕ → Type 0
IsBetween low high n = (low ≤ n) × (n ≤ high)

abbrev pub IsQueue : SimQueue → Type 0
IsQueue q = IsBetween 1 512 q.max_active

-- its queue is one of so many, and it has 1 to 8 parts of 1 to 1000 milliseconds
pub record IsItem (queues : ℕ) (x : Item) : Type 0 where
  pub queue : x.queue < queues
  pub parts : IsBetween 1 8 (length x.ms)
  pub ms : AllByRecursion (IsBetween 1 1000) x.ms

pub record IsWithinLimits (s : Plan) : Type 0 where
  pub few_queues : IsBetween 1 8 (length s.queues)
  pub queues : AllByRecursion IsQueue s.queues
  pub few_items : length s.items ≤ 8
  pub items : AllByRecursion (IsItem (length s.queues)) s.items
