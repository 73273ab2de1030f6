use Rattle.std.proofs.Common.{◌≡◌, ◌≤◌, ◌-◌, length, drop, find}
use Rattle.cmwq_model.specs.Prelude.{past_of, unended_tickets}
use Rattle.cmwq_refinement.specs.Tickets.{tickets_held}
use Rattle.cmwq_board.specs.Left.{is_sought, sought_of}
use Rattle.cmwq_board.proofs.left.sought_of.Given as goal

abbrev pub invariant-loop-ticket : goal.invariant-loop-ticket
invariant-loop-ticket l =
    (l.index ≤ length (tickets_held (unended_tickets (past_of l.state.entries)) l.caller.0))
    × (sought_of l.state.layout (past_of l.state.entries) l.caller.0 l.lending l.sought
    ≡ find (is_sought l.state.layout (past_of l.state.entries) l.lending l.sought)
    (drop l.index (tickets_held (unended_tickets (past_of l.state.entries)) l.caller.0)))

abbrev pub decreases-loop-ticket : goal.decreases-loop-ticket
decreases-loop-ticket l = length (tickets_held (unended_tickets (past_of l.state.entries)) l.caller.0) - l.index
