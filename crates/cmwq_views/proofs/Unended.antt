-- Unended tickets: that their callers and their numbers are there, and which one is found after a sleep.
use Rattle.std.proofs.Common.{◌≡◌, ◌<◌, List, Option, Some, None, option_and_then}
use Rattle.std.specs.Prelude.{◌+◌, Contains}
use Rattle.cmwq_lemmas.proofs.Members.{contained_in, found, in_contained, in_filter, of_in}
use Rattle.cmwq_model.specs.declared.entry.Entry.{Entry}
use Rattle.cmwq_model.specs.declared.record.Ticket.{Ticket}
use Rattle.cmwq_model.specs.Prelude.{IsLegal, Layout, is_unended, tickets, unended_tickets}
use Rattle.cmwq_refinement.proofs.TicketLimits.{callers_there}
use Rattle.cmwq_state.specs.History.{ticket_has_number}
use Rattle.cmwq_views.specs.declared.since.Since.{Since}
use Rattle.cmwq_views.specs.Lent.{ticket_after}

pub unended_caller : (s : Layout) (past : List Entry) (t : Ticket) → IsLegal s past → Contains (unended_tickets past) t
    → t.caller.0 < s.callers
unended_caller s past t legal here =
    of_in (λ u. u.caller.0 < s.callers) (tickets past) t (callers_there s past legal)
    (in_filter (is_unended past) (tickets past) t (contained_in (unended_tickets past) t here)).0

pub after_is_unended : (past : List Entry) (o : Option Since) (t : Ticket)
    → option_and_then (ticket_after past) o ≡ Some t → Contains (unended_tickets past) t
after_is_unended past None t h = absurd (let never : None ≡ Some t = h in cc)
after_is_unended past (Some x) t h =
    in_contained (unended_tickets past) t
    (found (ticket_has_number (x.entry + 1)) (unended_tickets past) t h).0
