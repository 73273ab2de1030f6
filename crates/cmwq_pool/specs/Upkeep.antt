-- How the lists of items, what is noted of items, and the workers make the pools.
use Rattle.std.specs.Prelude.{◌≡◌, ◌<◌, ◌^◌}
use Rattle.cmwq_pool.specs.Common.{ℕ, false, List, [], length, map, slice_index_or, range_with_len}
use Rattle.cmwq_list.specs.Lists.{Listed, list_at}
use Rattle.cmwq_pool.specs.declared.note.Note.{Note}
use Rattle.cmwq_pool.specs.declared.task.Task.{Task}
use Rattle.cmwq_pool.specs.declared.slot.Slot.{Slot}
use Rattle.cmwq_pool.specs.PoolState.{PoolState, task}

abbrev pub no_note : Note
no_note = record { number = 0; intensive = false }

abbrev pub note_at : List Note → ℕ → Note
note_at notes i = slice_index_or notes i no_note

-- an item with what is noted of it
abbrev pub noted_task : List Note → ℕ → Task
noted_task notes i = task (note_at notes i).number i (note_at notes i).intensive

-- list p has what pool p lists
abbrev pub pool_seen : Listed → List Note → List (List Slot) → ℕ → PoolState
pool_seen lists notes workers p =
    record {
      items = lists.items;
      listed = map (noted_task notes) (list_at lists.lists p);
      slots =
          slice_index_or workers p [];
    }

abbrev pub pools_seen : Listed → List Note → List (List Slot) → List PoolState
pools_seen lists notes workers = map (pool_seen lists notes workers) (range_with_len 0 (length workers))

pub record ArePoolsKept (lists : Listed) (notes : List Note) (workers : List (List Slot)) : Type 0 where
  pub many : length lists.lists ≡ length workers
  pub noted : length notes ≡ lists.items
  pub few : lists.items < 2 ^ 16
