use Rattle.cmwq_plain.specs.Common.{◌≡◌, is_gone}
use Rattle.cmwq_plain.specs.Past.{upto}
use Rattle.cmwq_plain.proofs.tickets.is_gone.Given as goal

abbrev pub invariant-loop-k : goal.invariant-loop-k
invariant-loop-k l = l.gone ≡ is_gone (upto l.past l.k) l.queue
