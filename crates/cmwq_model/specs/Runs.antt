-- Runs: what each worker runs, whether that sleeps, and the run of an item.
use Rattle.std.specs.Prelude.{ℕ, Bool, true, false, ◌&&◌, not, if◌then◌else◌, List, [], ◌∷◌, Option, Some, None}
use Rattle.std.specs.Prelude.{option_map, option_and_then, is_some}
use Rattle.std.specs.Option.{option_map_or}
use Rattle.cmwq_model.specs.declared.id.WorkerId.{WorkerId}
use Rattle.cmwq_model.specs.declared.id.Who.TheVariants.{Worker}
use Rattle.cmwq_model.specs.declared.reply.Reply.{Reply}
use Rattle.cmwq_model.specs.declared.reply.Reply.TheVariants as reply
use Rattle.cmwq_model.specs.declared.entry.Entry.{Entry}
use Rattle.cmwq_model.specs.declared.record.Start.{Start}
use Rattle.cmwq_model.specs.Calls.{is_at, is_by, worker_of, item_at}
use Rattle.cmwq_model.specs.Fate.{number_started, is_open}

-- the queueing with this number is open
abbrev pub is_number_open : List Entry → ℕ → Bool
is_number_open past n = option_map_or (λ i. is_open past i n) (item_at past n) false

-- what the worker started last
unfoldable pub last_start : List Entry → WorkerId → Option ℕ
last_start [] w = None
last_start (e ∷ past) w = if is_by (Worker w) e && is_some (number_started e.reply) then number_started e.reply
    else last_start past w

-- the worker's run: what it started last, while that is open
abbrev pub run : List Entry → WorkerId → Option ℕ
run past w = option_and_then (λ n. if is_number_open past n then Some n else None) (last_start past w)

abbrev pub has_run : List Entry → WorkerId → Bool
has_run past w = is_some (run past w)

-- of the worker's answers started, slept and woke, the last is slept
abbrev pub asleep_after : Reply → Bool → Bool
asleep_after (reply.Started n) asleep = false
asleep_after (reply.StartedEnlist n x) asleep = false
asleep_after reply.Slept asleep = true
asleep_after reply.Woke asleep = false
asleep_after r asleep = asleep

unfoldable pub is_asleep : List Entry → WorkerId → Bool
is_asleep [] w = false
is_asleep (e ∷ past) w = if is_by (Worker w) e then asleep_after e.reply (is_asleep past w) else is_asleep past w

-- a run that is awake may call, finish and sleep; one that sleeps may only wake
abbrev pub runs_awake : List Entry → WorkerId → Bool
runs_awake past w = has_run past w && not (is_asleep past w)

abbrev pub runs_asleep : List Entry → WorkerId → Bool
runs_asleep past w = has_run past w && is_asleep past w

-- the item's last start, and its run: that start, while the queueing is open
abbrev pub start_in : Entry → Option Start
start_in e =
    option_and_then (λ w. option_map (λ n. record { worker = w; number = n }) (number_started e.reply))
    (worker_of e.who)

abbrev pub starts_item : List Entry → Entry → ℕ → Bool
starts_item past e i = option_map_or (λ (start : Start). is_at (item_at past start.number) i) (start_in e) false

unfoldable pub item_start : List Entry → ℕ → Option Start
item_start [] i = None
item_start (e ∷ past) i = if starts_item past e i then start_in e else item_start past i

abbrev pub item_run : List Entry → ℕ → Option Start
item_run past i =
    option_and_then (λ (start : Start). if is_open past i start.number then Some start else None) (item_start past i)

abbrev pub item_runs : List Entry → ℕ → Bool
item_runs past i = is_some (item_run past i)
