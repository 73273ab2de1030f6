use Rattle.cmwq_plain.specs.Common.{◌≡◌, is_drain_of, list_any}
use Rattle.cmwq_plain.specs.Past.{unended_upto}
use Rattle.cmwq_plain.proofs.tickets.is_draining.Given as goal

abbrev pub invariant-loop-k : goal.invariant-loop-k
invariant-loop-k l = l.draining ≡ list_any (is_drain_of l.queue) (unended_upto l.past l.k)
