use Rattle.cmwq_plain.specs.Common.{◌≡◌, ends, list_any}
use Rattle.cmwq_plain.specs.Past.{upto}
use Rattle.cmwq_plain.proofs.tickets.is_unended.Given as goal

abbrev pub invariant-loop-k : goal.invariant-loop-k
invariant-loop-k l = l.ended ≡ list_any (ends l.ticket) (upto l.past l.k)
