use Rattle.cmwq_dispatch.proofs.OneNamed.{more_callers}
use Rattle.cmwq_dispatch.proofs.wakes.Wakes.add_caller.Goals as goal

pub returns-then-add_caller-clause-more : goal.returns-then-add_caller-clause-more
returns-then-add_caller-clause-more c = more_callers c.args.self.now _ c.add_caller.ensures.kept
