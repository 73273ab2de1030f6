use Rattle.cmwq_dispatch.proofs.OneNamed.{more_workers}
use Rattle.cmwq_dispatch.proofs.wakes.Wakes.add_worker.Goals as goal

pub returns-then-add_worker-clause-more : goal.returns-then-add_worker-clause-more
returns-then-add_worker-clause-more c = more_workers c.args.self.now _ c.add_worker.ensures.kept
