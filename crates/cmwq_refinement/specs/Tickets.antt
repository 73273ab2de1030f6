-- The tickets of callers refine the unended tickets of a history.
use Rattle.std.specs.Prelude.{◌≡◌, ◌<◌, ◌∷◌}
use Rattle.cmwq_refinement.specs.Common.{ℕ, List, [], length, map, filter, find, Option, Some, None, IsSome, IsTrue}
use Rattle.cmwq_refinement.specs.Common.{range_with_len, Who, Caller, Entry, Ticket, Layout, unended_tickets}
use Rattle.cmwq_refinement.specs.Common.{is_held_by, is_crowded, ticket_of, is_cancelling, is_draining}
use Rattle.cmwq_refinement.specs.Common.{is_being_destroyed, IsLegal, ticket_ended, TicketBook, TicketRows, is_numbered}
use Rattle.cmwq_refinement.specs.Common.{any_ticket, may_give, new_tickets, tickets_with, tickets_without, count}
use Rattle.cmwq_ticket.specs.Rows as row
use Rattle.cmwq_refinement.specs.ByNumber.{ticket_given}

-- a row for each caller, with its unended tickets by age
abbrev pub the_caller : ℕ → Who
the_caller c = Caller (record { 0 = c })

abbrev pub tickets_held : List Ticket → ℕ → List Ticket
tickets_held ts c = filter (is_held_by (the_caller c)) ts

abbrev pub ticket_rows_of : ℕ → List Ticket → TicketRows
ticket_rows_of callers ts = map (tickets_held ts) (range_with_len 0 callers)

-- beside the rows, how many items and queues there are
abbrev pub tickets_in : Layout → TicketRows → TicketBook
tickets_in s rows = record { items = s.items; queues = length s.queues; rows = rows }

abbrev pub tickets_of : Layout → List Entry → TicketBook
tickets_of s past = tickets_in s (ticket_rows_of s.callers (unended_tickets past))

-- the tickets after one was ended, and after one was given
abbrev pub tickets_after_end : Option Ticket → TicketBook → TicketBook
tickets_after_end None b = b
tickets_after_end (Some t) b = tickets_without b t.caller.0 t.number

abbrev pub tickets_after_giving : Option Ticket → TicketBook → TicketBook
tickets_after_giving None b = b
tickets_after_giving (Some t) b = tickets_with b t

abbrev pub tickets_after : List Entry → Entry → TicketBook → TicketBook
tickets_after past e b = tickets_after_giving (ticket_given past e) (tickets_after_end (ticket_ended past e) b)

-- at first the rows are empty, and each entry's calls make them those of the longer history
abbrev pub NoTicketsAtFirst : Type 0
NoTicketsAtFirst = (s : Layout) → tickets_of s [] ≡ new_tickets s.callers s.items (length s.queues)

abbrev pub TicketsRefine : Type 0
TicketsRefine = (s : Layout) (past : List Entry) (e : Entry) → IsLegal s (e ∷ past)
    → tickets_after past e (tickets_of s past) ≡ tickets_of s (e ∷ past)

-- each of these calls may be made where it is made, in a legal history whose layout is inside the limits
abbrev pub MayEndTicket : Option Ticket → TicketBook → Type 0
MayEndTicket None b = Unit {0}
MayEndTicket (Some t) b = IsSome (row.ticket_of_caller b.rows t.caller.0 t.number)

abbrev pub MayGiveTicket : Option Ticket → TicketBook → Type 0
MayGiveTicket None b = Unit {0}
MayGiveTicket (Some t) b = IsTrue (may_give b t)

pub record MayApplyToTickets (past : List Entry) (e : Entry) (b : TicketBook) : Type 0 where
  pub ended : MayEndTicket (ticket_ended past e) b
  pub given : MayGiveTicket (ticket_given past e) (tickets_after_end (ticket_ended past e) b)

abbrev pub EntriesApplyToTickets : Type 0
EntriesApplyToTickets = (s : Layout) (past : List Entry) (e : Entry) → IsLegal s (e ∷ past)
    → MayApplyToTickets past e (tickets_of s past)

-- there is a row for each caller, so that they may be asked of it
abbrev pub RowsForCallers : Type 0
RowsForCallers = (s : Layout) (past : List Entry) → length (tickets_of s past).rows ≡ s.callers

-- what they answer of a caller is what the definitions say
abbrev pub CrowdedAlike : Type 0
CrowdedAlike = (s : Layout) (past : List Entry) (c : ℕ) → c < s.callers → row.is_row_crowded (tickets_of s past).rows c
    ≡ is_crowded past (the_caller c)

abbrev pub TicketsFoundAlike : Type 0
TicketsFoundAlike = (s : Layout) (past : List Entry) (c n : ℕ) → c < s.callers
    → row.ticket_of_caller (tickets_of s past).rows c n ≡ ticket_of past (the_caller c) n

-- and so it is of all callers in a legal history
abbrev pub TicketsOfAnyCaller : Type 0
TicketsOfAnyCaller = (s : Layout) (past : List Entry) (n : ℕ) → IsLegal s past → any_ticket (tickets_of s past).rows n
    ≡ find (is_numbered n) (unended_tickets past)

abbrev pub CancellingAlike : Type 0
CancellingAlike = (s : Layout) (past : List Entry) (i : ℕ) → IsLegal s past → row.any_cancels (tickets_of s past).rows i
    ≡ is_cancelling past i

abbrev pub DrainingAlike : Type 0
DrainingAlike = (s : Layout) (past : List Entry) (q : ℕ) → IsLegal s past → row.any_drains (tickets_of s past).rows q
    ≡ is_draining past q

abbrev pub DestroyedAlike : Type 0
DestroyedAlike = (s : Layout) (past : List Entry) (q : ℕ) → IsLegal s past → row.any_destroys (tickets_of s past).rows q
    ≡ is_being_destroyed past q

abbrev pub AllTicketsAreCounted : Type 0
AllTicketsAreCounted = (s : Layout) (past : List Entry) → IsLegal s past
    → count (tickets_of s past).rows ≡ length (unended_tickets past)
