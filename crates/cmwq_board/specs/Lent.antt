-- The callers that are lent to waits, and the unended tickets.
use Rattle.std.specs.Prelude.{◌≡◌, ◌<◌, ◌≤◌, ◌+◌, ◌-◌, ◌++◌, ◌==◌, ℕ, Bool, true, false, not, List, length}
use Rattle.std.specs.Prelude.{count_by, filter}
use Rattle.std.specs.Prelude.{Contains, Option, Some, None, nat_lt, slice_index_or, option_to_list, if◌then◌else◌}
use Rattle.cmwq_model.specs.Prelude.{Layout, gives_ticket, is_drain, is_ticket, same_worker, ticket_in, ticket_of}
use Rattle.cmwq_model.specs.Prelude.{unended_tickets}
use Rattle.cmwq_model.specs.declared.entry.Entry.{Entry}
use Rattle.cmwq_model.specs.declared.id.CallerId.{CallerId}
use Rattle.cmwq_model.specs.declared.id.Who.{Who}
use Rattle.cmwq_model.specs.declared.id.Who.TheVariants.{Caller, Worker}
use Rattle.cmwq_model.specs.declared.id.WorkerId.{WorkerId}
use Rattle.cmwq_model.specs.declared.record.Ticket.{Ticket}
use Rattle.cmwq_model.specs.declared.reply.Reply.{Reply}
use Rattle.cmwq_theory_steps.specs.TicketSteps.{is_kept}
use Rattle.cmwq_board.specs.declared.lending.Lending.{Lending}
use Rattle.cmwq_board.specs.declared.lending.Lending.TheVariants.{Free, Waits}

-- the ticket by which somebody waits
abbrev pub ticket_at : Lending → Option Ticket
ticket_at Free = None
ticket_at (Waits t run slept) = Some t

abbrev pub waits_by : Ticket → Lending → Bool
waits_by t Free = false
waits_by t (Waits u run slept) = u.number == t.number

-- the run of this worker waits by it
abbrev pub is_wait_of : WorkerId → Lending → Bool
is_wait_of w Free = false
is_wait_of w (Waits t None slept) = false
is_wait_of w (Waits t (Some v) slept) = same_worker v w

-- no run waits at two places
abbrev pub RunsWaitOnce : List Lending → Type 0
RunsWaitOnce lent = (w : WorkerId) (i j : ℕ) → is_wait_of w (slice_index_or lent i Free) ≡ true
    → is_wait_of w (slice_index_or lent j Free) ≡ true → i ≡ j

-- Where this ticket is ended, its caller may be lent again, if somebody waited by it or nobody did. It does as
-- before, if somebody waits by another ticket.
abbrev pub MayBecome : Ticket → Lending → Lending → Type 0
MayBecome t before Free = (u : Ticket) → ticket_at before ≡ Some u → u.number ≡ t.number
MayBecome t before (Waits u run slept) = (before ≡ Waits u run slept) × (waits_by t before ≡ false)

-- The last callers of the layout are lent. One by which somebody waits has the ticket of that wait.
abbrev pub first_lent : Layout → List Lending → ℕ
first_lent s lent = s.callers - length lent

abbrev pub caller_of : Layout → List Lending → ℕ → CallerId
caller_of s lent place = record { 0 = first_lent s lent + place }

pub record AreLent (s : Layout) (past : List Entry) (lent : List Lending) : Type 0 where
  pub few : length lent ≤ s.callers
  pub held : (place : ℕ) (t : Ticket) → place < length lent → ticket_at (slice_index_or lent place Free) ≡ Some t
      → ticket_of past (Caller (caller_of s lent place)) t.number ≡ Some t

-- a ticket of a lent caller was left: it is unended, and nobody waits by it
pub record HasLeft (s : Layout) (past : List Entry) (lent : List Lending) : Type 0 where
  pub place : ℕ
  pub less : place < length lent
  pub ticket : Ticket
  pub unended : Contains (unended_tickets past) ticket
  pub own : ticket.caller.0 ≡ (caller_of s lent place).0
  pub nobody : waits_by ticket (slice_index_or lent place Free) ≡ false

-- how many drains are unended
abbrev pub is_of_drain : Ticket → Bool
is_of_drain t = is_drain t.call

abbrev pub unended_drains : List Entry → ℕ
unended_drains past = count_by is_of_drain (unended_tickets past)

-- ---- the unended tickets after a step

-- an entry ends those that it ends, and gives the one that it gives
abbrev pub TicketsGoOn : Entry → List Entry → List Entry → Type 0
TicketsGoOn e old new =
    unended_tickets new ≡ filter (is_kept e) (unended_tickets old) ++ option_to_list (ticket_in e (length old))

abbrev pub SameTickets : List Entry → List Entry → Type 0
SameTickets old new = unended_tickets new ≡ unended_tickets old

-- one more, if the reply gives it
abbrev pub given_by : Reply → Ticket → List Ticket
given_by r t = option_to_list (if gives_ticket r then Some t else None)

abbrev pub GivesBy : Reply → Ticket → List Entry → List Entry → Type 0
GivesBy r t old new = unended_tickets new ≡ unended_tickets old ++ given_by r t

-- all but this one
abbrev pub is_other : Ticket → Ticket → Bool
is_other t u = not (is_ticket (Caller t.caller) t.number u)

abbrev pub EndsTicketOf : Ticket → List Entry → List Entry → Type 0
EndsTicketOf t old new = unended_tickets new ≡ filter (is_other t) (unended_tickets old)

-- a worker, or one of the callers before this one
abbrev pub is_before : ℕ → Who → Bool
is_before first (Caller c) = nat_lt c.0 first
is_before first (Worker w) = true
