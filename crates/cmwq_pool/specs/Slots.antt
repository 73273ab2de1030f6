-- The slots of a pool's workers: which are enlisted, what they run, which hold the pool, and who comes and goes.
use Rattle.std.specs.Prelude.{◌&&◌, ◌==◌, if◌then◌else◌}
use Rattle.cmwq_pool.specs.Common.{ℕ, Bool, true, false, not, List, length, find, count_by, slice_index_or, slice_set}
use Rattle.cmwq_pool.specs.Common.{Option, Some, None, option_map, is_some, range_with_len, list_any, option_map_or}
use Rattle.cmwq_model.specs.Prelude.{has_spare}
use Rattle.cmwq_pool.specs.declared.task.Task.{Task}
use Rattle.cmwq_pool.specs.declared.slot.Slot.{Slot}

-- worker 0 is enlisted at first
abbrev pub new_slot : ℕ → Slot
new_slot x = record { enlisted = x == 0; run = None; asleep = false }

-- what stands for a slot that the pool doesn't have
abbrev pub no_slot : Slot
no_slot = record { enlisted = false; run = None; asleep = false }

abbrev pub slot_at : List Slot → ℕ → Slot
slot_at slots x = slice_index_or slots x no_slot

abbrev pub slot_has_run : Slot → Bool
slot_has_run slot = is_some slot.run

abbrev pub run_number : Slot → Option ℕ
run_number slot = option_map (λ (t : Task). t.number) slot.run

-- a run that is awake may finish and sleep; one that sleeps may only wake
abbrev pub slot_runs_awake : Slot → Bool
slot_runs_awake slot = slot_has_run slot && not slot.asleep

abbrev pub slot_runs_asleep : Slot → Bool
slot_runs_asleep slot = slot_has_run slot && slot.asleep

-- of the enlisted slots, those with a run and those without; the others are the reserve
abbrev pub slot_is_occupied : Slot → Bool
slot_is_occupied slot = slot.enlisted && slot_has_run slot

abbrev pub slot_is_idle : Slot → Bool
slot_is_idle slot = slot.enlisted && not (slot_has_run slot)

abbrev pub slot_is_reserve : Slot → Bool
slot_is_reserve slot = not slot.enlisted

-- the slots that run an item
abbrev pub is_task_of : ℕ → Task → Bool
is_task_of i t = t.item.0 == i

abbrev pub slot_runs : ℕ → Slot → Bool
slot_runs i slot = option_map_or (is_task_of i) slot.run false

abbrev pub slots_run_item : List Slot → ℕ → Bool
slots_run_item slots i = list_any (slot_runs i) slots

-- the concurrency rule: runs that are awake hold the pool, except those of a CPU-intensive queue
abbrev pub slot_is_holding : Slot → Bool
slot_is_holding slot = slot_runs_awake slot && not (option_map_or (λ (t : Task). t.intensive) slot.run false)

abbrev pub slots_runnable : List Slot → ℕ
slots_runnable slots = count_by slot_is_holding slots

-- A worker that starts, and leaves no other idle one behind, enlists the reserve worker of the least index, if there is
-- one.
abbrev pub slot_indices : List Slot → List ℕ
slot_indices slots = range_with_len 0 (length slots)

abbrev pub slot_is_other_idle : List Slot → ℕ → ℕ → Bool
slot_is_other_idle slots w x = not (x == w) && slot_is_idle (slot_at slots x)

abbrev pub is_reserve_at : List Slot → ℕ → Bool
is_reserve_at slots x = slot_is_reserve (slot_at slots x)

abbrev pub slots_enlisted_by : List Slot → ℕ → Option ℕ
slots_enlisted_by slots w = if list_any (slot_is_other_idle slots w) (slot_indices slots) then None
    else find (is_reserve_at slots) (slot_indices slots)

-- An idle worker may retire while more than two are idle, and the idle ones past two are a quarter of the occupied ones
-- or more.
abbrev pub slot_may_retire : List Slot → ℕ → Bool
slot_may_retire slots w =
    slot_is_idle (slot_at slots w) && has_spare (count_by slot_is_idle slots) (count_by slot_is_occupied slots)

-- what becomes of a slot: its worker starts, sleeps, wakes, finishes, is enlisted, retires
abbrev pub slot_running : Task → Slot → Slot
slot_running t slot = record slot { run = Some t; asleep = false }

abbrev pub slot_asleep : Slot → Slot
slot_asleep slot = record slot { asleep = true }

abbrev pub slot_awake : Slot → Slot
slot_awake slot = record slot { asleep = false }

abbrev pub slot_free : Slot → Slot
slot_free slot = record slot { run = None }

abbrev pub slot_enlisted : Slot → Slot
slot_enlisted slot = record slot { enlisted = true }

abbrev pub slot_retired : Slot → Slot
slot_retired slot = record slot { enlisted = false }

-- the slots with one of them changed
abbrev pub with_slot : (Slot → Slot) → ℕ → List Slot → List Slot
with_slot change x slots = slice_set slots x (change (slot_at slots x))

abbrev pub with_enlisted : Option ℕ → List Slot → List Slot
with_enlisted None slots = slots
with_enlisted (Some x) slots = with_slot slot_enlisted x slots

-- a worker starts, and enlists whom the rule says
abbrev pub slots_started : List Slot → ℕ → Task → List Slot
slots_started slots w t = with_enlisted (slots_enlisted_by slots w) (with_slot (slot_running t) w slots)
