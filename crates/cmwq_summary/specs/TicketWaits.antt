-- How long callers waited: from the entry that gave a ticket to that at which its end was answered done, or to the end
-- of the history.
use Rattle.std.specs.Prelude.{ℕ, ◌∷◌, List, find, Option, option_map}
use Rattle.std.specs.Option.{option_map_or}
use Rattle.cmwq_model.specs.declared.entry.Entry.{Entry}
use Rattle.cmwq_model.specs.declared.record.Ticket.{Ticket}
use Rattle.cmwq_model.specs.Prelude.{is_held_by, unended_tickets}
use Rattle.cmwq_theory_steps.specs.TicketSteps.{ticket_ended}
use Rattle.cmwq_refinement.specs.Tickets.{the_caller}
use Rattle.cmwq_summary.specs.declared.span.Span.{Span}
use Rattle.cmwq_summary.specs.declared.span.TheConstants.{NO_TIME}
use Rattle.cmwq_summary.specs.Tallies.{Key}
use Rattle.cmwq_summary.specs.Figures.{caller_number}
use Rattle.cmwq_summary.specs.Spans.{longer, since}
use Rattle.cmwq_summary.specs.Waits.{Wait, waited}

abbrev pub by_ticket_ended : Key
by_ticket_ended past e = option_map caller_number (ticket_ended past e)

-- since the entry that gave the ticket that an entry ends
abbrev pub ended_wait : Wait
ended_wait past e = option_map_or (λ (t : Ticket). since (e ∷ past) t.number) (ticket_ended past e) NO_TIME

-- of a caller's unended tickets the oldest has waited longest
abbrev pub oldest_ticket : List Entry → ℕ → Option Ticket
oldest_ticket past c = find (is_held_by (the_caller c)) (unended_tickets past)

abbrev pub unended_wait : List Entry → ℕ → Span
unended_wait past c = option_map_or (λ (t : Ticket). since past t.number) (oldest_ticket past c) NO_TIME

-- a caller's longest wait
abbrev pub longest_wait : List Entry → ℕ → Span
longest_wait past c = longer (waited by_ticket_ended ended_wait past c).longest (unended_wait past c)
