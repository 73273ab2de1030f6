use Rattle.std.proofs.Common.{[], arith}
use Rattle.std.proofs.lemmas.List.{ext_get_or}
use Rattle.cmwq_pool.proofs.pool_workers.copy_workers.Goals as goal

pub returns : goal.returns
returns c =
    ext_get_or [] c.loop-pool.workers c.args.others.now (omega (arith, c.requires.many, c.loop-pool.auto.workers))
    (λ p low. c.loop-pool.invariant.copied p (omega (arith, low)))
