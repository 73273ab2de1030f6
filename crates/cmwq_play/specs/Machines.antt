-- What calls make of a history: single ones, where they fit and there is room for them, and whole ones.
use Rattle.std.specs.Prelude.{ℕ, zero, suc, Bool, false, ◌&&◌, if◌then◌else◌, List, Option, Some, None}
use Rattle.std.specs.Prelude.{option_map, option_and_then}
use Rattle.std.specs.Option.{option_map_or}
use Rattle.cmwq_model.specs.Prelude.{fits, is_done, is_drain, is_nothing, is_retired, is_tick, number_started}
use Rattle.cmwq_model.specs.Prelude.{queueing_at, ticket_told}
use Rattle.cmwq_model.specs.declared.call.Call.{Call}
use Rattle.cmwq_model.specs.declared.call.Call.TheVariants as call
use Rattle.cmwq_model.specs.declared.reply.Reply.{Reply}
use Rattle.cmwq_model.specs.declared.entry.Entry.{Entry}
use Rattle.cmwq_model.specs.declared.id.CallerId.{CallerId}
use Rattle.cmwq_model.specs.declared.id.ItemId.{ItemId}
use Rattle.cmwq_model.specs.declared.id.WorkerId.{WorkerId}
use Rattle.cmwq_model.specs.declared.id.Who.{Who}
use Rattle.cmwq_model.specs.declared.id.Who.TheVariants.{Caller, Worker}
use Rattle.cmwq_core.specs.History.{History, past_in, next_entry, takes, takes_with, with_entry}
use Rattle.cmwq_play.specs.declared.machine.Called.{Called}
use Rattle.cmwq_play.specs.declared.machine.Called.TheVariants.{NoRoom, Whole, Waits}
use Rattle.cmwq_play.specs.declared.place.Ticketed.{Ticketed}

-- ---- single calls

-- the call is one that such a who makes, with numbers inside the layout, and there is room for its entry
abbrev pub is_made : History → Who → Call → Bool
is_made h who c = fits h.layout who c && takes h who c

unfoldable pub stepped : History → Who → Call → History
stepped h who c = if is_made h who c then with_entry h (next_entry h who c) else h

unfoldable pub replied : History → Who → Call → Option Reply
replied h who c = if is_made h who c then Some (next_entry h who c).reply else None

-- the item of the queueing that an entry with this reply starts
abbrev pub item_started : List Entry → Reply → Option ItemId
item_started past r = option_and_then (λ n. option_map (λ x. x.item) (queueing_at past n)) (number_started r)

-- the item that an idle worker would start
unfoldable pub starts : History → WorkerId → Option ItemId
starts h w = option_and_then (item_started (past_in h)) (replied h (Worker w) call.Take)

-- a wait would end now
unfoldable pub ends : History → Who → ℕ → Bool
ends h who ticket = option_map_or is_done (replied h who (call.End ticket)) false

-- the worker would be sent to the reserve
unfoldable pub retires : History → WorkerId → Bool
retires h w = option_map_or is_retired (replied h (Worker w) call.Retire) false

-- There is room for a whole wait of what a worker runs: for its sleep, and for the call of its caller with what is owed
-- then and two entries more, which are the sleep and the wake.
unfoldable pub has_wait_room : History → WorkerId → CallerId → Call → Bool
has_wait_room h w c waits =
    is_made h (Worker w) call.Sleep && (fits h.layout (Caller c) waits && takes_with h (Caller c) waits 2)

-- ---- whole calls

-- What is due is fired, at most so many times, until there is nothing, or no room.
unfoldable pub fired : ℕ → History → Who → History
fired zero h who = h
fired (suc n) h who =
    option_map_or (λ r. if is_nothing r then stepped h who call.Fire else fired n (stepped h who call.Fire) who)
    (replied h who call.Fire) h

-- a wait ends, and after that of a drain what is due is fired
unfoldable pub ended : History → Who → Ticketed → History
ended h who w = let g = stepped h who (call.End w.ticket) in if is_drain w.call then fired g.layout.items g who else g

-- a history, and what came of the call that made it
pub record AfterCall : Type 0 where
  pub history : History
  pub outcome : Called

-- a wait that has begun ends at once if it may
abbrev pub begun : History → Who → Ticketed → AfterCall
begun h who w = if ends h who w.ticket then record { history = ended h who w; outcome = Whole }
    else record { history = h; outcome = Waits w }

abbrev pub after_reply : History → Who → Call → Reply → AfterCall
after_reply h who c r =
    if is_tick c then record { history = fired h.layout.items h who; outcome = Whole }
    else option_map_or (λ k. begun h who (record { ticket = k; call = c })) (ticket_told r)
    (record { history = h; outcome = Whole })

-- a whole call
unfoldable pub called : History → Who → Call → AfterCall
called h who c =
    option_map_or (after_reply (stepped h who c) who c) (replied h who c) (record { history = h; outcome = NoRoom })
