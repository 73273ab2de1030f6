-- The limits of a script, by the format of its history: in format 3 those of every shape, and before it those of a text
-- of such a format.
use Rattle.std.specs.Prelude.{◌-◌, ◌==◌, if◌then◌else◌}
use Rattle.cmwq_json_script.specs.Common.{ℕ, most_callers, most_cpus, most_items, most_queues, most_room, most_workers}
use Rattle.cmwq_text.specs.Formats.{old_callers, old_cpus, old_items, old_queues, old_room, old_workers}

abbrev pub cpus_in : ℕ → ℕ
cpus_in version = if version == 3 then most_cpus else old_cpus

abbrev pub workers_in : ℕ → ℕ
workers_in version = if version == 3 then most_workers else old_workers

abbrev pub callers_in : ℕ → ℕ
callers_in version = if version == 3 then most_callers else old_callers

-- how many runs may wait at once: there is a caller beside theirs at least
abbrev pub most_waits : ℕ → ℕ
most_waits version = callers_in version - 1

abbrev pub items_in : ℕ → ℕ
items_in version = if version == 3 then most_items else old_items

abbrev pub queues_in : ℕ → ℕ
queues_in version = if version == 3 then most_queues else old_queues

abbrev pub room_in : ℕ → ℕ
room_in version = if version == 3 then most_room else old_room
