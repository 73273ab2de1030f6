-- What an unended ticket waits for. It is ready where that is nothing.
use Rattle.std.specs.Prelude.{ℕ, Bool, true, false, ◌&&◌, ◌==◌, if◌then◌else◌, List, [], ◌∷◌, length, find, count_by}
use Rattle.std.specs.Prelude.{Option, Some, None, option_map, nat_lt, nat_le}
use Rattle.std.specs.Option.{option_or, option_map_or}
use Rattle.cmwq_model.specs.declared.call.Call.{Call}
use Rattle.cmwq_model.specs.declared.call.Call.TheVariants as call
use Rattle.cmwq_model.specs.declared.entry.Entry.{Entry}
use Rattle.cmwq_model.specs.declared.record.Queueing.{Queueing}
use Rattle.cmwq_model.specs.declared.record.Start.{Start}
use Rattle.cmwq_model.specs.declared.record.Ticket.{Ticket}
use Rattle.cmwq_model.specs.Runs.{item_run}
use Rattle.cmwq_model.specs.Queueings.{still_open}
use Rattle.cmwq_model.specs.Tickets.{unended_tickets, is_flush_of}

-- At most 15 flushes of a queue are served at once. A flush is served from its own position, or from the first later
-- one after whose event fewer than 15 older flushes of the queue are unended; until then it is in overflow.
abbrev pub is_older_flush : ℕ → ℕ → Ticket → Bool
is_older_flush q n t = is_flush_of q t && nat_lt t.number n

abbrev pub is_served_after : List Entry → ℕ → ℕ → Bool
is_served_after past q n = nat_lt (count_by (is_older_flush q n) (unended_tickets past)) 15

unfoldable pub serving_from : List Entry → ℕ → ℕ → Option ℕ
serving_from [] q n = None
serving_from (e ∷ past) q n =
    option_or (serving_from past q n) (if nat_le n (length past) && is_served_after (e ∷ past) q n
    then Some (length past) else None)

-- A served flush waits for the queueings of its queue up to the position from which it is served, one in overflow for
-- all of them, a flush of an item for the item's queueings up to its own position, a drain and a destroy for all of its
-- queue.
abbrev pub is_within : Option ℕ → ℕ → Bool
is_within bound n = option_map_or (nat_le n) bound true

abbrev pub holds_up : List Entry → ℕ → Call → Queueing → Bool
holds_up past n (call.Flush q) x = (x.place.queue.0 == q.0) && is_within (serving_from past q.0 n) x.number
holds_up past n (call.Drain q) x = x.place.queue.0 == q.0
holds_up past n (call.Destroy q) x = x.place.queue.0 == q.0
holds_up past n (call.FlushItem i) x = (x.item.0 == i.0) && nat_le x.number n
holds_up past n (call.FlushDelayed i) x = (x.item.0 == i.0) && nat_le x.number n
holds_up past n c x = false

-- the least queueing that is waited for; a cancel_sync waits for the item's run
abbrev pub least_waited : List Entry → ℕ → Call → Option ℕ
least_waited past n c = option_map (λ (x : Queueing). x.number) (find (holds_up past n c) (still_open past))

abbrev pub waits_for : List Entry → ℕ → Call → Option ℕ
waits_for past n (call.CancelSync i) = option_map (λ (start : Start). start.number) (item_run past i.0)
waits_for past n c = least_waited past n c
