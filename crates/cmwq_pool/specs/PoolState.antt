-- A pool as one plain value: how many items there are, what is listed to start, and the slots of its workers.
use Rattle.std.specs.Prelude.{◌&&◌, ◌==◌, ◌∷◌, ◌++◌}
use Rattle.cmwq_pool.specs.Common.{ℕ, Bool, not, List, [], map, filter, find, Option, option_map, nat_lt}
use Rattle.cmwq_pool.specs.Common.{range_with_len, list_any}
use Rattle.cmwq_pool.specs.declared.task.Task.{Task}
use Rattle.cmwq_pool.specs.declared.slot.Slot.{Slot}
use Rattle.cmwq_pool.specs.Slots.{is_task_of, new_slot, slots_run_item, with_slot, slots_started}

pub record PoolState : Type 0 where
  pub items : ℕ
  pub listed : List Task
  pub slots : List Slot

-- nothing is listed, and worker 0 is enlisted
abbrev pub new_pool_state : ℕ → ℕ → PoolState
new_pool_state items workers = record { items = items; listed = []; slots = map new_slot (range_with_len 0 workers) }

abbrev pub task : ℕ → ℕ → Bool → Task
task n i intensive = record { number = n; item = record { 0 = i }; intensive = intensive }

-- a queueing may be listed if its item is one of those there are, and isn't listed
abbrev pub may_add : PoolState → ℕ → Bool
may_add p i = nat_lt i p.items && not (list_any (is_task_of i) p.listed)

abbrev pub pool_with_task : PoolState → Task → PoolState
pool_with_task p t = record p { listed = p.listed ++ t ∷ [] }

-- all but this queueing of the item
abbrev pub is_task : ℕ → ℕ → Task → Bool
is_task n i t = (t.number == n) && is_task_of i t

abbrev pub is_other_task : ℕ → ℕ → Task → Bool
is_other_task n i t = not (is_task n i t)

abbrev pub pool_without_task : PoolState → ℕ → ℕ → PoolState
pool_without_task p n i = record p { listed = filter (is_other_task n i) p.listed }

-- the next to start: the first whose item has no run
abbrev pub is_task_startable : List Slot → Task → Bool
is_task_startable slots t = not (slots_run_item slots t.item.0)

abbrev pub next_task : PoolState → Option Task
next_task p = find (is_task_startable p.slots) p.listed

abbrev pub next_number : PoolState → Option ℕ
next_number p = option_map (λ (t : Task). t.number) (next_task p)

-- it leaves the list, and its worker runs it and enlists whom the rule says
abbrev pub pool_with_run : PoolState → ℕ → Task → PoolState
pool_with_run p w t =
    record p { listed = filter (is_other_task t.number t.item.0) p.listed; slots = slots_started p.slots w t }

-- the slot of one worker changes, and nothing else
abbrev pub with_slot_again : (Slot → Slot) → PoolState → ℕ → PoolState
with_slot_again change p w = record p { slots = with_slot change w p.slots }
