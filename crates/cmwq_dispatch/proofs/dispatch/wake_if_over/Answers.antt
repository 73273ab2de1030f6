use Rattle.cmwq_dispatch.proofs.Cared.{all_named}
use Rattle.cmwq_dispatch.proofs.dispatch.wake_if_over.Goals as goal

pub returns-then-not-was_over-clause-named : goal.returns-then-not-was_over-clause-named
returns-then-not-was_over-clause-named c who =
    all_named who c.args.sleepers.now c.clear.new.self c.args.wakes.now c.add_all.new.self c.clear.ensures.nobody
    c.add_all.ensures.all c.add_all.ensures.more
