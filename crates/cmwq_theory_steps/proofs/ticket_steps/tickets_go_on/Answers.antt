use Rattle.cmwq_theory_steps.proofs.TicketSteps.{unended_go_on, one_ticket_ends, served_stay, begun_are_served}
use Rattle.cmwq_theory_steps.proofs.TicketSteps.{overflowed_move_up, one_moves_up, tickets_go_on}
use Rattle.cmwq_theory_steps.proofs.ticket_steps.tickets_go_on.Goals as goal

pub returns : goal.returns
returns c =
    assumption (
      unended_go_on,
      one_ticket_ends,
      served_stay,
      begun_are_served,
      overflowed_move_up,
      one_moves_up,
      tickets_go_on,
    )
