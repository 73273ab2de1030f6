use Rattle.cmwq_plain.specs.Common.{◌≡◌, find, is_ticket}
use Rattle.cmwq_plain.specs.Past.{unended_upto}
use Rattle.cmwq_plain.proofs.tickets.ticket_of.Given as goal

abbrev pub invariant-loop-k : goal.invariant-loop-k
invariant-loop-k l = l.found ≡ find (is_ticket l.who l.number) (unended_upto l.past l.k)
