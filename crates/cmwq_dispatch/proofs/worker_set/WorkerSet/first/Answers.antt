use Rattle.std.proofs.Common.{arith}
use Rattle.cmwq_dispatch.proofs.Sets.{first_has}
use Rattle.cmwq_dispatch.proofs.worker_set.WorkerSet.first.Goals as goal

pub returns-else-self-eq0 : goal.returns-else-self-eq0
returns-else-self-eq0 c = first_has c.args.self.now.bits c.if-self-eq0.false (omega arith)
