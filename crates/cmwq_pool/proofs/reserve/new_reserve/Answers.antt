use Rattle.std.proofs.Common.{arith}
use Rattle.cmwq_pool.proofs.Workers.{new_bits, same_test, bit_more}
use Rattle.cmwq_pool.proofs.reserve.new_reserve.Goals as goal

pub loop-worker-preserved : goal.loop-worker-preserved
loop-worker-preserved c =
    bit_more c.loop-worker.bits c.loop-worker.worker (omega arith) (omega arith) c.loop-worker.invariant

pub returns : goal.returns
returns c =
    new_bits c.args.workers c.loop-worker.worker c.loop-worker.bits
    (λ i pos. same_test i c.loop-worker.worker i _ (λ less. omega arith) (λ less. omega arith)) c.loop-worker.invariant
