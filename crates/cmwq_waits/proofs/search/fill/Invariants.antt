use Rattle.std.proofs.Common.{◌≡◌, filter, length, take, vec_capacity, vec_len}
use Rattle.cmwq_waits.specs.Refused.{is_other}
use Rattle.cmwq_waits.proofs.search.fill.Given as goal

abbrev pub invariant-loop-wait : goal.invariant-loop-wait
invariant-loop-wait l = (l.set.items ≡ filter (is_other l.last.run.number) (take l.wait-index l.waits))
    × (vec_len l.set ≡ length l.set.items) × (vec_capacity l.set ≡ vec_capacity l.fn.set)
