use Rattle.cmwq_plain.specs.Common.{◌≡◌, is_cancel_sync_of, list_any}
use Rattle.cmwq_plain.specs.Past.{unended_upto}
use Rattle.cmwq_plain.proofs.tickets.is_cancelling.Given as goal

abbrev pub invariant-loop-k : goal.invariant-loop-k
invariant-loop-k l = l.cancelling ≡ list_any (is_cancel_sync_of l.item) (unended_upto l.past l.k)
