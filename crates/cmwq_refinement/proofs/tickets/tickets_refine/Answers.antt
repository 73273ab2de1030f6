use Rattle.cmwq_refinement.proofs.TicketsRefine.{no_tickets_at_first, tickets_refine, entries_apply_to_tickets}
use Rattle.cmwq_refinement.proofs.TicketsRefine.{rows_for_callers, crowded_alike, tickets_found_alike}
use Rattle.cmwq_refinement.proofs.TicketsRefine.{tickets_of_any_caller, cancelling_alike, draining_alike}
use Rattle.cmwq_refinement.proofs.TicketsRefine.{destroyed_alike, all_tickets_are_counted}
use Rattle.cmwq_refinement.proofs.tickets.tickets_refine.Goals as goal

ruleset history = (no_tickets_at_first, tickets_refine, entries_apply_to_tickets, rows_for_callers)

ruleset asked = (
  crowded_alike,
  tickets_found_alike,
  tickets_of_any_caller,
  cancelling_alike,
  draining_alike,
  destroyed_alike,
  all_tickets_are_counted,
)

pub returns : goal.returns
returns c = assumption (history, asked)
