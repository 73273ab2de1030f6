use Rattle.std.proofs.Common.{◌≡◌, ◌++◌, map, take}
use Rattle.cmwq_key.specs.Numbered.{ticket_number}
use Rattle.cmwq_key.proofs.key.numbered.push_tickets.Given as goal

abbrev pub invariant-loop-ticket : goal.invariant-loop-ticket
invariant-loop-ticket l = l.numbers.items ≡ l.fn.numbers.items ++ map ticket_number (take l.ticket-index l.tickets)
