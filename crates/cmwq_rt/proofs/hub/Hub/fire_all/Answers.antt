use Rattle.cmwq_rt.specs.Common.{◌∙◌, ap, subst, MatchOption, is_caller}
use Rattle.cmwq_monitor.specs.Steps.{HasFired, IsFiring}
use Rattle.cmwq_rt.proofs.hub.Hub.fire_all.Goals as goal

pub loop-preserved : goal.loop-preserved
loop-preserved g c =
    let s = g.N.HubName.layout in
    let v = c.args.participant.now in
    let w = c.fire_some.new.participant in
    let so : IsFiring s c.in-Ok-Some.rest v w =
    subst (λ o. MatchOption o (HasFired s v w) (λ rest. IsFiring s rest v w)) c.in-Ok-Some.field-0-is
    (c.in-Ok-Some.ensures.fired v c.loop.invariant.2) in
    (record {}, record {}, so, ap is_caller so.gains.same ∙ c.requires.caller)
