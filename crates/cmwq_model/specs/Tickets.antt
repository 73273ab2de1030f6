-- Tickets: the waits that callers began, and which of them are unended.
use Rattle.std.specs.Prelude.{ℕ, Bool, true, false, ◌&&◌, ◌||◌, not, ◌==◌, if◌then◌else◌, List, [], ◌∷◌, ◌++◌, length}
use Rattle.std.specs.Prelude.{filter, find, count_by, Option, Some, None, option_to_list, nat_le}
use Rattle.std.specs.List.{list_any}
use Rattle.std.specs.Option.{option_map_or}
use Rattle.cmwq_model.specs.declared.id.Who.{Who}
use Rattle.cmwq_model.specs.declared.id.Who.TheVariants.{Caller, Worker}
use Rattle.cmwq_model.specs.declared.call.Call.{Call}
use Rattle.cmwq_model.specs.declared.call.Call.TheVariants as call
use Rattle.cmwq_model.specs.declared.reply.Reply.{Reply}
use Rattle.cmwq_model.specs.declared.reply.Reply.TheVariants as reply
use Rattle.cmwq_model.specs.declared.entry.Entry.{Entry}
use Rattle.cmwq_model.specs.declared.record.Ticket.{Ticket}
use Rattle.cmwq_model.specs.Calls.{is_by}

-- an answer that gives a ticket, whose number is that of the entry
abbrev pub gives_ticket : Reply → Bool
gives_ticket (reply.Ticket k) = true
gives_ticket (reply.TicketQueued k) = true
gives_ticket (reply.TicketCancelled k n) = true
gives_ticket (reply.TicketUnbooked k) = true
gives_ticket (reply.TicketNo k) = true
gives_ticket r = false

abbrev pub ticket_told : Reply → Option ℕ
ticket_told (reply.Ticket k) = Some k
ticket_told (reply.TicketQueued k) = Some k
ticket_told (reply.TicketCancelled k n) = Some k
ticket_told (reply.TicketUnbooked k) = Some k
ticket_told (reply.TicketNo k) = Some k
ticket_told r = None

abbrev pub ticket_for : Who → Call → ℕ → Option Ticket
ticket_for (Caller c) call n = Some (record { caller = c; call = call; number = n })
ticket_for (Worker w) call n = None

abbrev pub ticket_in : Entry → ℕ → Option Ticket
ticket_in e n = if gives_ticket e.reply then ticket_for e.who e.call n else None

-- all tickets that were ever given, by their numbers
unfoldable pub tickets : List Entry → List Ticket
tickets [] = []
tickets (e ∷ past) = tickets past ++ option_to_list (ticket_in e (length past))

-- a ticket is ended once an end of it, by its caller, was answered done
abbrev pub is_end_of : ℕ → Call → Bool
is_end_of n (call.End t) = t == n
is_end_of n c = false

abbrev pub is_done : Reply → Bool
is_done reply.Done = true
is_done r = false

abbrev pub ends : Ticket → Entry → Bool
ends t e = is_by (Caller t.caller) e && is_end_of t.number e.call && is_done e.reply

abbrev pub is_unended : List Entry → Ticket → Bool
is_unended past t = not (list_any (ends t) past)

abbrev pub unended_tickets : List Entry → List Ticket
unended_tickets past = filter (is_unended past) (tickets past)

-- while a cancel_sync of an item is unended the item is being cancelled, and likewise a queue is draining, by a drain
-- or a destroy
abbrev pub cancels_sync : ℕ → Call → Bool
cancels_sync i (call.CancelSync j) = j.0 == i
cancels_sync i c = false

abbrev pub drains : ℕ → Call → Bool
drains q (call.Drain r) = r.0 == q
drains q (call.Destroy r) = r.0 == q
drains q c = false

abbrev pub destroys : ℕ → Call → Bool
destroys q (call.Destroy r) = r.0 == q
destroys q c = false

abbrev pub flushes : ℕ → Call → Bool
flushes q (call.Flush r) = r.0 == q
flushes q c = false

abbrev pub is_cancel_sync_of : ℕ → Ticket → Bool
is_cancel_sync_of i t = cancels_sync i t.call

abbrev pub is_drain_of : ℕ → Ticket → Bool
is_drain_of q t = drains q t.call

abbrev pub is_destroy_of : ℕ → Ticket → Bool
is_destroy_of q t = destroys q t.call

abbrev pub is_flush_of : ℕ → Ticket → Bool
is_flush_of q t = flushes q t.call

abbrev pub is_cancelling : List Entry → ℕ → Bool
is_cancelling past i = list_any (is_cancel_sync_of i) (unended_tickets past)

abbrev pub is_draining : List Entry → ℕ → Bool
is_draining past q = list_any (is_drain_of q) (unended_tickets past)

abbrev pub is_being_destroyed : List Entry → ℕ → Bool
is_being_destroyed past q = list_any (is_destroy_of q) (unended_tickets past)

-- how many unended tickets a caller may have
abbrev pub most_tickets : ℕ
most_tickets = 64

abbrev pub is_held_by : Who → Ticket → Bool
is_held_by (Caller c) t = t.caller.0 == c.0
is_held_by (Worker w) t = false

abbrev pub is_crowded : List Entry → Who → Bool
is_crowded past who = nat_le most_tickets (count_by (is_held_by who) (unended_tickets past))

-- this caller's unended ticket with this number
abbrev pub is_ticket : Who → ℕ → Ticket → Bool
is_ticket who n t = (t.number == n) && is_held_by who t

abbrev pub ticket_of : List Entry → Who → ℕ → Option Ticket
ticket_of past who n = find (is_ticket who n) (unended_tickets past)

-- a queue is gone once the end of a destroy of it was answered done
abbrev pub ends_destroy : List Entry → ℕ → Who → Call → Bool
ends_destroy past q who (call.End n) = option_map_or (is_destroy_of q) (ticket_of past who n) false
ends_destroy past q who c = false

unfoldable pub is_gone : List Entry → ℕ → Bool
is_gone [] q = false
is_gone (e ∷ past) q = is_gone past q || (is_done e.reply && ends_destroy past q e.who e.call)
