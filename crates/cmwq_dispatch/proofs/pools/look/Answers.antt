use Rattle.cmwq_dispatch.proofs.EachPool.{look_keeps}
use Rattle.cmwq_dispatch.proofs.pools.look.Goals as goal

pub returns-in-Only-clause-kept : goal.returns-in-Only-clause-kept
returns-in-Only-clause-kept c p was =
    look_keeps _ _ c.args.pools.now _ _ p c.look_in.ensures.others c.look_in.ensures.attended was
