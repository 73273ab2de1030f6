use Rattle.cmwq_service.proofs.Continuing.{goes_batch}
use Rattle.cmwq_service.proofs.client.HubClientClient.make_all.Goals as goal

pub invariant_of-self : goal.invariant_of-self
invariant_of-self g c = record {
  goes = goes_batch g.N.HubName.layout g.B.Start.start c.args.self.now.calls.caller c.make_all.new.self c.args.calls.now
      c.args.replies.now c.make_all.new.replies c.make_all.result c.args.self.now.goes c.make_all.ensures.made
      c.make_all.ensures.stopped;
}
