use Rattle.cmwq_plain.specs.Common.{◌≡◌, is_destroy_of, list_any}
use Rattle.cmwq_plain.specs.Past.{unended_upto}
use Rattle.cmwq_plain.proofs.tickets.is_being_destroyed.Given as goal

abbrev pub invariant-loop-k : goal.invariant-loop-k
invariant-loop-k l = l.destroying ≡ list_any (is_destroy_of l.queue) (unended_upto l.past l.k)
