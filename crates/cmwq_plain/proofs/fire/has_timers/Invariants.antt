use Rattle.cmwq_plain.specs.Common.{◌≡◌, is_booked_on, list_any}
use Rattle.cmwq_plain.specs.Partial.{standing_upto}
use Rattle.cmwq_plain.proofs.fire.has_timers.Given as goal

abbrev pub invariant-loop-k : goal.invariant-loop-k
invariant-loop-k l = l.found ≡ list_any (is_booked_on l.queue) (standing_upto l.past l.k)
