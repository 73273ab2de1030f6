use Rattle.cmwq_ticket.specs.Common.{◌≡◌, [], replicate, vec_capacity}
use Rattle.cmwq_ticket.proofs.tickets.new_rows.Given as goal

-- as many empty rows as callers so far, and room for all
abbrev pub invariant-loop : goal.invariant-loop
invariant-loop l = (l.rows.items ≡ replicate l.counter []) × (vec_capacity l.rows ≡ l.callers)
