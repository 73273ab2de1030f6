use Rattle.cmwq_rt.specs.Common.{◌∙◌, ap, is_caller}
use Rattle.cmwq_rt.proofs.Batching.{batch_answered}
use Rattle.cmwq_rt.proofs.caller.Caller.make_all.Goals as goal

pub invariant_of-self : goal.invariant_of-self
invariant_of-self g c =
    ap is_caller
    (batch_answered g.N.HubName.layout c.self.inside.participant c.args.calls.now c.args.replies.now
    c.call_all.new.replies c.call_all.new.participant c.call_all.result c.call_all.ensures.made
    c.call_all.ensures.stopped).0
    ∙ c.self.invariant
