use Rattle.std.proofs.Common.{arith}
use Rattle.cmwq_dispatch.proofs.Sets.{has_less, has_not}
use Rattle.cmwq_dispatch.proofs.worker_set.WorkerSet.remove.Goals as goal

pub returns-then-index-lt64 : goal.returns-then-index-lt64
returns-then-index-lt64 c = λ x. has_less c.args.self.now.bits c.args.index x (omega arith) c.if-index-lt64.true

pub returns-else-index-lt64 : goal.returns-else-index-lt64
returns-else-index-lt64 c = λ x. has_not c.args.self.now.bits c.args.index x (omega arith) c.if-index-lt64.false
