use Rattle.std.proofs.Common.{◌≡◌, ◌&&◌, ℕ, cond}
use Rattle.std.specs.Prelude.{nat_lt}
use Rattle.std.specs.Int.{bit_at}
use Rattle.cmwq_pool.proofs.reserve.new_reserve.Given as goal

abbrev pub invariant-loop-worker : goal.invariant-loop-worker
invariant-loop-worker l = (i : ℕ) → bit_at l.bits i ≡ cond (nat_lt 0 i && nat_lt i l.worker) 1 0
