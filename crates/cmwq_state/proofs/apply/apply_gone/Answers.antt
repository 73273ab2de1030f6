use Rattle.std.proofs.Common.{subst}
use Rattle.cmwq_state.specs.Gone.{LosesQueue}
use Rattle.cmwq_state.proofs.GoneSteps.{gone_refine}
use Rattle.cmwq_state.proofs.Applied.{may_lose_queue}
use Rattle.cmwq_state.proofs.apply.apply_gone.Goals as goal

pub lose_queue-requires : goal.lose_queue-requires
lose_queue-requires c =
    may_lose_queue c.requires.0 c.requires.1 c.args.effect.now c.args.gone.now.items c.requires.2.effect
    c.requires.2.before c.requires.3

pub returns : goal.returns
returns c s past next are =
    let old = c.args.gone.now.items in
    let new = c.lose_queue.new.gone.items in
    gone_refine s past c.args.effect.now.entry old new are
    (subst (λ o. LosesQueue o old new) next.effect.done c.lose_queue.ensures)
