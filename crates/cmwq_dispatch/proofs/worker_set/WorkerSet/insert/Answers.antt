use Rattle.cmwq_dispatch.proofs.Sets.{has_more}
use Rattle.cmwq_dispatch.proofs.worker_set.WorkerSet.insert.Goals as goal

pub returns : goal.returns
returns c = λ x. has_more c.args.self.now.bits c.args.index x c.requires
