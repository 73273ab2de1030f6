use Rattle.cmwq_plain.specs.Common.{◌≡◌, is_due_before, list_any}
use Rattle.cmwq_plain.specs.Partial.{fireable_upto}
use Rattle.cmwq_plain.proofs.fire.is_soonest.Given as goal

abbrev pub invariant-loop-k : goal.invariant-loop-k
invariant-loop-k l = l.is_late ≡ list_any (is_due_before l.made) (fireable_upto l.past l.k)
