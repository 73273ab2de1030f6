use Rattle.std.proofs.Common.{◌≡◌, filter, length, take, vec_capacity, vec_len}
use Rattle.cmwq_waits.specs.Refused.{stays}
use Rattle.cmwq_waits.proofs.deadlock.narrow.Given as goal

abbrev pub invariant-loop-wait : goal.invariant-loop-wait
invariant-loop-wait l = (l.left.items ≡ filter (stays l.look l.set) (take l.wait-index l.set))
    × (vec_len l.left ≡ length l.left.items) × (vec_capacity l.left ≡ vec_capacity l.fn.left)
