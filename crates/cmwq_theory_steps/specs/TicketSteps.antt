-- What one more entry does to the unended tickets, and which flushes it serves.
use Rattle.std.specs.Prelude.{◌≡◌, ◌+◌, ◌<◌, ◌≤◌, ◌&&◌, ◌==◌, if◌then◌else◌, ◌∷◌, ◌++◌}
use Rattle.cmwq_theory_steps.specs.Common.{ℕ, Bool, false, not, List, length, filter, count_by, Option, Some, None}
use Rattle.cmwq_theory_steps.specs.Common.{option_to_list, nat_lt, option_map_or, Who, Call, Entry, Ticket, Layout}
use Rattle.cmwq_theory_steps.specs.Common.{is_done, ends, ticket_in, unended_tickets, is_flush_of, ticket_of}
use Rattle.cmwq_theory_steps.specs.Common.{is_older_flush, serving_from, IsLegal}
use Rattle.cmwq_model.specs.declared.call.Call.TheVariants as call
use Rattle.cmwq_theory_steps.specs.Histories.{one}
use Rattle.cmwq_model.specs.declared.reply.Reply.TheVariants as reply

-- the unended tickets after the entry: those that it doesn't end, then the one that it gives
abbrev pub is_kept : Entry → Ticket → Bool
is_kept e t = not (ends t e)

abbrev pub UnendedGoOn : Type 0
UnendedGoOn = (s : Layout) (past : List Entry) (e : Entry) → IsLegal s (e ∷ past)
    → unended_tickets (e ∷ past) ≡ filter (is_kept e) (unended_tickets past)
    ++ option_to_list (ticket_in e (length past))

-- the ticket that the entry ends: the caller's of the number that is asked for, where that is answered done
abbrev pub ticket_asked : List Entry → Who → Call → Option Ticket
ticket_asked past who (call.End n) = ticket_of past who n
ticket_asked past who c = None

abbrev pub ticket_ended : List Entry → Entry → Option Ticket
ticket_ended past e = if is_done e.reply then ticket_asked past e.who e.call else None

abbrev pub is_ended_by : Entry → Ticket → Bool
is_ended_by e t = ends t e

abbrev pub OneTicketEnds : Type 0
OneTicketEnds = (past : List Entry) (e : Entry) → filter (is_ended_by e) (unended_tickets past)
    ≡ option_to_list (ticket_ended past e)

-- so of the tickets that pass any test, one less is unended where the ended one passes, and one more where the given
-- one does
abbrev pub passes : (Ticket → Bool) → Option Ticket → Bool
passes p o = option_map_or p o false

abbrev pub TicketsGoOn : Type 0
TicketsGoOn = (s : Layout) (past : List Entry) (e : Entry) (p : Ticket → Bool) → IsLegal s (e ∷ past)
    → count_by p (unended_tickets (e ∷ past)) + one (passes p (ticket_ended past e))
    ≡ count_by p (unended_tickets past) + one (passes p (ticket_in e (length past)))

-- a flush that is served stays so, from the same position
abbrev pub ServedStay : Type 0
ServedStay = (past : List Entry) (e : Entry) (q n b : ℕ) → serving_from past q n ≡ Some b
    → serving_from (e ∷ past) q n ≡ Some b

-- a flush that begins is served at once where fewer than 15 of its queue are unended
abbrev pub BegunAreServed : Type 0
BegunAreServed = (s : Layout) (past : List Entry) (e : Entry) (q : ℕ) (t : Ticket) → IsLegal s (e ∷ past)
    → ticket_in e (length past) ≡ Some t
    → serving_from (e ∷ past) q t.number
    ≡ (if nat_lt (count_by (is_flush_of q) (unended_tickets past)) 15 then Some (length past) else None)

-- one in overflow is served where the entry ends an older one of its queue and exactly 15 older ones were unended
abbrev pub moves_up : List Entry → Entry → ℕ → ℕ → Bool
moves_up past e q n = passes (is_older_flush q n) (ticket_ended past e)
    && (count_by (is_older_flush q n) (unended_tickets past) == 15)

abbrev pub OverflowedMoveUp : Type 0
OverflowedMoveUp = (s : Layout) (past : List Entry) (e : Entry) (q n : ℕ) → IsLegal s (e ∷ past) → n < length past
    → serving_from past q n ≡ None
    → serving_from (e ∷ past) q n ≡ (if moves_up past e q n then Some (length past) else None)

-- so one flush of a queue moves up at most
abbrev pub is_moving : List Entry → Entry → ℕ → Ticket → Bool
is_moving past e q t = is_flush_of q t && moves_up past e q t.number

abbrev pub OneMovesUp : Type 0
OneMovesUp = (past : List Entry) (e : Entry) (q : ℕ) → count_by (is_moving past e q) (unended_tickets past) ≤ 1

-- the entry ends the ticket with this number
abbrev pub IsDone : Entry → ℕ → Type 0
IsDone e t = (e.call ≡ call.End t) × (e.reply ≡ reply.Done)
