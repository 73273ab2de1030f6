-- The unended tickets of all callers: a row for each caller, with its tickets by rising number.
use Rattle.std.specs.Prelude.{◌≤◌, ◌<◌, ◌&&◌, ◌==◌, ◌∷◌, ◌++◌}
use Rattle.cmwq_ticket.specs.Common.{ℕ, Bool, not, List, [], length, filter, find, flat_map, Option, AllPairs, sum_by}
use Rattle.cmwq_ticket.specs.Common.{nat_le, nat_lt, replicate, slice_index_or, slice_set, list_any, list_all, Ticket}
use Rattle.cmwq_ticket.specs.Common.{is_cancel_sync_of, is_destroy_of, is_drain_of}
use Rattle.cmwq_ticket.specs.Counts.{is_counted}

abbrev pub TicketRows : Type 0
TicketRows = List (List Ticket)

-- beside the rows, how many items and queues their tickets may speak of
pub record TicketBook : Type 0 where
  pub items : ℕ
  pub queues : ℕ
  pub rows : TicketRows

abbrev pub new_tickets : ℕ → ℕ → ℕ → TicketBook
new_tickets callers items queues = record { items = items; queues = queues; rows = replicate callers [] }

abbrev pub tickets_of_caller : TicketRows → ℕ → List Ticket
tickets_of_caller rows c = slice_index_or rows c []

-- one ticket by its number
abbrev pub is_numbered : ℕ → Ticket → Bool
is_numbered n t = t.number == n

abbrev pub ticket_of_caller : TicketRows → ℕ → ℕ → Option Ticket
ticket_of_caller rows c n = find (is_numbered n) (tickets_of_caller rows c)

-- of whichever caller: the first there is
abbrev pub any_ticket : TicketRows → ℕ → Option Ticket
any_ticket rows n = find (is_numbered n) (flat_map (λ (row : List Ticket). row) rows)

-- a caller has at most 64
abbrev pub is_row_crowded : TicketRows → ℕ → Bool
is_row_crowded rows c = nat_le 64 (length (tickets_of_caller rows c))

abbrev pub count : TicketRows → ℕ
count rows = sum_by length rows

-- an item is being cancelled while some cancel_sync of it stands, and likewise a queue is being destroyed, or draining
abbrev pub any_cancels : TicketRows → ℕ → Bool
any_cancels rows i = list_any (list_any (is_cancel_sync_of i)) rows

abbrev pub any_destroys : TicketRows → ℕ → Bool
any_destroys rows q = list_any (list_any (is_destroy_of q)) rows

abbrev pub any_drains : TicketRows → ℕ → Bool
any_drains rows q = list_any (list_any (is_drain_of q)) rows

-- a ticket may be given to a caller that isn't crowded, where its number is later than those the caller has, and its
-- call speaks of an item or a queue that is one of so many
abbrev pub comes_before : Ticket → Ticket → Bool
comes_before t u = nat_lt u.number t.number

abbrev pub may_give : TicketBook → Ticket → Bool
may_give b t = nat_lt t.caller.0 (length b.rows) && not (is_row_crowded b.rows t.caller.0)
    && list_all (comes_before t) (tickets_of_caller b.rows t.caller.0) && is_counted b.items b.queues t.call

-- it comes after those the caller has
abbrev pub rows_with : TicketRows → Ticket → TicketRows
rows_with rows t = slice_set rows t.caller.0 (tickets_of_caller rows t.caller.0 ++ t ∷ [])

abbrev pub tickets_with : TicketBook → Ticket → TicketBook
tickets_with b t = record b { rows = rows_with b.rows t }

-- all of a caller's tickets but the one with this number
abbrev pub is_other_ticket : ℕ → Ticket → Bool
is_other_ticket n t = not (is_numbered n t)

abbrev pub rows_without : TicketRows → ℕ → ℕ → TicketRows
rows_without rows c n = slice_set rows c (filter (is_other_ticket n) (tickets_of_caller rows c))

abbrev pub tickets_without : TicketBook → ℕ → ℕ → TicketBook
tickets_without b c n = record b { rows = rows_without b.rows c n }

-- what is true of each row at every moment
abbrev pub IsOlderTicket : Ticket → Ticket → Type 0
IsOlderTicket t u = t.number < u.number

pub record IsRow (row : List Ticket) : Type 0 where
  pub rising : AllPairs IsOlderTicket row
  pub few : length row ≤ 64
