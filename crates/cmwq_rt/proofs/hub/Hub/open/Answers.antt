use Rattle.cmwq_rt.specs.Common.{◌∙◌, subst, IsTrue, Layout, is_layout}
use Rattle.cmwq_rt.proofs.Placing.{counts_are}
use Rattle.cmwq_rt.proofs.hub.Hub.open.Goals as goal

pub new-participants-requires-clause-counts : goal.new-participants-requires-clause-counts
new-participants-requires-clause-counts g c =
    counts_are g.N.HubName.layout c.counts-counts.result c.args.parts.shape.queues
    (c.counts-counts.ensures.counts ∙ c.requires.layout)
    (subst (λ (s : Layout). IsTrue (is_layout s)) c.requires.layout c.counts-counts.ensures.limits)
