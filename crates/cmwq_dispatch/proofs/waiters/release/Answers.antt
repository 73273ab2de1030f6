use Rattle.cmwq_dispatch.proofs.OneNamed.{names_more}
use Rattle.cmwq_dispatch.proofs.Released.{named_more}
use Rattle.cmwq_dispatch.proofs.waiters.release.Goals as goal

pub returns-in-Some-clause-named_flushes : goal.returns-in-Some-clause-named_flushes
returns-in-Some-clause-named_flushes c =
    named_more _ _ c.args.flushes.now c.name_flushes.new.flushes c.name_released.ensures.more
    c.name_flushes.ensures.named

pub returns-in-Some-clause-more : goal.returns-in-Some-clause-more
returns-in-Some-clause-more c = names_more _ _ _ c.name_flushes.ensures.more c.name_released.ensures.more
