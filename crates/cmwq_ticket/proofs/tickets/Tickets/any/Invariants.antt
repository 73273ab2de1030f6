use Rattle.std.proofs.Common.{◌≡◌, drop}
use Rattle.cmwq_ticket.specs.Rows.{any_ticket}
use Rattle.cmwq_ticket.proofs.tickets.Tickets.any.Given as goal

-- no row so far has it
abbrev pub invariant-loop-row : goal.invariant-loop-row
invariant-loop-row l = any_ticket l.row-items l.number ≡ any_ticket (drop l.row-index l.row-items) l.number
