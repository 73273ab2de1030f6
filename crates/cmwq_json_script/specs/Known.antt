-- What calls may name: items and queues by their names, and CPUs by their numbers.
use Rattle.cmwq_text.specs.Words.{◌>>=◌}
use Rattle.std.specs.Prelude.{◌&&◌, if◌then◌else◌, ◌∷◌, ◌++◌}
use Rattle.cmwq_json_script.specs.Common.{ℕ, not, List, [], length, Option, Some, None, codes, nat_lt, Data, Items}
use Rattle.cmwq_json_script.specs.Common.{no_items, item, get, as_str, as_number, as_u64, ItemId, QueueId, CpuId}
use Rattle.cmwq_json_script.specs.Common.{is_taken, name_said, number_of_name}

pub record Known : Type 0 where
  pub items : List (List ℕ)
  pub queues : List (List ℕ)
  pub cpus : ℕ

-- An item may name one that stands after it. So what may be named are the names of all members of `items` that have
-- one, each once, in their order; the first so many as there may be items where there are more.
abbrev pub known_name : Data → Option (List ℕ)
known_name d = do
  name ← get (codes "name") d
  name_said name

abbrev pub with_name : ℕ → List (List ℕ) → Option (List ℕ) → List (List ℕ)
with_name most before None = before
with_name most before (Some name) = if nat_lt (length before) most && not (is_taken before name) then before ++ name
    ∷ [] else before

abbrev pub names_after : ℕ → List (List ℕ) → Items → List (List ℕ)
names_after most before no_items = before
names_after most before (item d ds) = names_after most (with_name most before (known_name d)) ds

-- ---- what a part of a call names

abbrev pub item_known : Known → Data → Option ItemId
item_known known d = do
  name ← as_str d
  n ← number_of_name known.items name
  Some (record { 0 = n })

abbrev pub queue_known : Known → Data → Option QueueId
queue_known known d = do
  name ← as_str d
  n ← number_of_name known.queues name
  Some (record { 0 = n })

abbrev pub cpu_said : Known → Data → Option CpuId
cpu_said known d = do
  number ← as_number d
  n ← as_u64 number
  if nat_lt n known.cpus then Some (record { 0 = n }) else None
