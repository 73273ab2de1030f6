-- Room: what a history still owes, which calls are refused for want of room, and the steps of a list of calls.
use Rattle.std.specs.Prelude.{ℕ, ◌+◌, ◌*◌, Bool, true, false, not, ◌&&◌, if◌then◌else◌, List, [], ◌∷◌, ◌++◌, length}
use Rattle.std.specs.Prelude.{map, fold, count_by, flat_map, nat_le}
use Rattle.std.specs.List.{range_with_len}
use Rattle.cmwq_model.specs.declared.id.PoolId.{PoolId}
use Rattle.cmwq_model.specs.declared.id.WorkerId.{WorkerId}
use Rattle.cmwq_model.specs.declared.id.Who.{Who}
use Rattle.cmwq_model.specs.declared.call.Call.{Call}
use Rattle.cmwq_model.specs.declared.call.Call.TheVariants as call
use Rattle.cmwq_model.specs.declared.entry.Entry.{Entry}
use Rattle.cmwq_model.specs.declared.record.Queueing.{Queueing}
use Rattle.cmwq_model.specs.Layout.{Layout, indices}
use Rattle.cmwq_model.specs.Calls.{now}
use Rattle.cmwq_model.specs.Bookings.{is_booked}
use Rattle.cmwq_model.specs.Fate.{is_started}
use Rattle.cmwq_model.specs.Runs.{has_run, runs_asleep}
use Rattle.cmwq_model.specs.Queueings.{still_open}
use Rattle.cmwq_model.specs.Tickets.{unended_tickets}
use Rattle.cmwq_model.specs.Widths.{is_frozen}
use Rattle.cmwq_model.specs.Workers.{worker_at}
use Rattle.cmwq_model.specs.Legal.{entry_for}

-- all workers of a layout
abbrev pub pool_workers : Layout → PoolId → List WorkerId
pool_workers s p = map (worker_at p) (indices s)

abbrev pub cpu_workers : Layout → ℕ → List WorkerId
cpu_workers s c = pool_workers s (record { cpu = record { 0 = c }; high = false })
    ++ pool_workers s (record { cpu = record { 0 = c }; high = true })

abbrev pub workers : Layout → List WorkerId
workers s = flat_map (cpu_workers s) (range_with_len 0 s.cpus)

-- A history owes 2 entries for each open queueing that hasn't started, 1 for each run, 1 more for each that sleeps,
-- 3 for each booked item, 1 for each unended ticket, and 1 while it is frozen: so that what has begun can end.
abbrev pub has_not_started : List Entry → Queueing → Bool
has_not_started past x = not (is_started past x.number)

unfoldable pub owed : Layout → List Entry → ℕ
owed s past =
    2 * count_by (has_not_started past) (still_open past) + count_by (has_run past) (workers s) + count_by
    (runs_asleep past) (workers s)
    + 3 * count_by (is_booked past) (range_with_len 0 s.items) + length
    (unended_tickets past) + (if is_frozen past then 1 else 0)

abbrev pub room_needed : Layout → List Entry → ℕ
room_needed s past = length past + owed s past

-- the time has a room of its own, 2 ^ 62 ticks: a tick that would go beyond it has none
abbrev pub most_time : ℕ
most_time = 4611686018427387904

abbrev pub has_time : List Entry → Call → Bool
has_time past (call.Tick ticks) = nat_le (now past + ticks) most_time
has_time past c = true

-- a call has room where the history with its entry, and what that owes, is within the room; the program's is that of
-- the layout
abbrev pub has_room : Layout → ℕ → List Entry → Who → Call → Bool
has_room s room past who call = has_time past call && nat_le (room_needed s (entry_for s past who call ∷ past)) room

-- the steps of a list of calls: the entry of each that has room, and how many were left out
pub record Steps : Type 0 where
  pub past : List Entry
  pub left_out : ℕ

abbrev pub step : Layout → ℕ → Steps → Who × Call → Steps
step s room t c =
    if has_room s room t.past c.0 c.1 then record { past = entry_for s t.past c.0 c.1 ∷ t.past; left_out = t.left_out }
    else record { past = t.past; left_out = t.left_out + 1 }

abbrev pub none : Steps
none = record { past = []; left_out = 0 }

abbrev pub steps : Layout → ℕ → List (Who × Call) → Steps
steps s room calls = fold (step s room) none calls
