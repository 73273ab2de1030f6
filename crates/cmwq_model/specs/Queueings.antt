-- Queueings: what each entry opens, which are open, and which items are pending.
use Rattle.std.specs.Prelude.{ℕ, Bool, true, false, ◌&&◌, ◌||◌, not, ◌==◌, if◌then◌else◌, List, [], ◌∷◌, ◌++◌, length}
use Rattle.std.specs.Prelude.{filter, find, Option, Some, None, option_map, option_and_then, option_to_list, is_some}
use Rattle.std.specs.Option.{option_or, option_map_or}
use Rattle.cmwq_model.specs.declared.id.CpuId.{CpuId}
use Rattle.cmwq_model.specs.declared.id.WorkerId.{WorkerId}
use Rattle.cmwq_model.specs.declared.call.Call.{Call}
use Rattle.cmwq_model.specs.declared.call.Call.TheVariants as call
use Rattle.cmwq_model.specs.declared.reply.Reply.{Reply}
use Rattle.cmwq_model.specs.declared.reply.Reply.TheVariants as reply
use Rattle.cmwq_model.specs.declared.entry.Entry.{Entry}
use Rattle.cmwq_model.specs.declared.record.Place.{Place}
use Rattle.cmwq_model.specs.declared.record.Booking.{Booking}
use Rattle.cmwq_model.specs.declared.record.Queueing.{Queueing}
use Rattle.cmwq_model.specs.declared.record.Start.{Start}
use Rattle.cmwq_model.specs.Calls.{is_at, item_of}
use Rattle.cmwq_model.specs.Bookings.{booking, is_booked}
use Rattle.cmwq_model.specs.Fate.{is_started, is_open}
use Rattle.cmwq_model.specs.Runs.{run, item_run}

-- an answer that opens a queueing, whose number is that of the entry
abbrev pub opens : Reply → Bool
opens (reply.Yes k) = true
opens (reply.Again k) = true
opens (reply.Fired i k) = true
opens (reply.TicketQueued k) = true
opens r = false

-- the place that is asked for: it stands in the call, and for a fire or a flush of a delayed item in the booking
abbrev pub place_called : Call → Option Place
place_called (call.Queue i q c) = Some (record { queue = q; cpu = c })
place_called (call.Delay i q c t) = Some (record { queue = q; cpu = c })
place_called (call.Modify i q c t) = Some (record { queue = q; cpu = c })
place_called c = None

abbrev pub place_booked : List Entry → ℕ → Option Place
place_booked past i = option_map (λ (b : Booking). b.place) (booking past i)

abbrev pub place_wanted : List Entry → Call → ℕ → Option Place
place_wanted past c i = option_or (place_called c) (place_booked past i)

-- a queueing goes to the CPU where its item runs, and else to the one that is asked for
abbrev pub cpu_for : List Entry → ℕ → CpuId → CpuId
cpu_for past i cpu = option_map_or (λ (start : Start). start.worker.pool.cpu) (item_run past i) cpu

abbrev pub queued_at : List Entry → ℕ → Place → Queueing
queued_at past i p =
    record {
      item = record { 0 = i };
      place = record { queue = p.queue; cpu = cpu_for past i p.cpu };
      number =
          length past;
    }

-- what an entry opens
abbrev pub opening : List Entry → Entry → Option Queueing
opening past e =
    if opens e.reply then option_and_then (λ i. option_map (queued_at past i) (place_wanted past e.call i)) (item_of e)
    else None

-- all queueings that there ever were, by their numbers, and those that are open
unfoldable pub queueings : List Entry → List Queueing
queueings [] = []
queueings (e ∷ past) = queueings past ++ option_to_list (opening past e)

abbrev pub is_live : List Entry → Queueing → Bool
is_live past x = is_open past x.item.0 x.number

abbrev pub still_open : List Entry → List Queueing
still_open past = filter (is_live past) (queueings past)

-- an item is pending if it is booked or has an open queueing that hasn't started
abbrev pub is_unstarted : List Entry → ℕ → Queueing → Bool
is_unstarted past i x = (x.item.0 == i) && not (is_started past x.number)

abbrev pub unstarted_queueing : List Entry → ℕ → Option Queueing
unstarted_queueing past i = find (is_unstarted past i) (still_open past)

abbrev pub is_pending : List Entry → ℕ → Bool
is_pending past i = is_booked past i || is_some (unstarted_queueing past i)

-- the queueing with this number, and the queue of what a worker or an item runs
abbrev pub has_number : ℕ → Queueing → Bool
has_number n x = x.number == n

abbrev pub queueing_at : List Entry → ℕ → Option Queueing
queueing_at past n = find (has_number n) (queueings past)

abbrev pub queue_of : List Entry → ℕ → Option ℕ
queue_of past n = option_map (λ (x : Queueing). x.place.queue.0) (queueing_at past n)

abbrev pub run_queue : List Entry → WorkerId → Option ℕ
run_queue past w = option_and_then (queue_of past) (run past w)

abbrev pub runs_elsewhere : List Entry → ℕ → ℕ → Bool
runs_elsewhere past i q =
    option_map_or (λ (start : Start). not (is_at (queue_of past start.number) q)) (item_run past i) false

-- the item has an open queueing, started or not
abbrev pub is_of : ℕ → Queueing → Bool
is_of i x = x.item.0 == i

abbrev pub is_item_open : List Entry → ℕ → Bool
is_item_open past i = is_some (find (is_of i) (still_open past))
