use Rattle.cmwq_service.proofs.Continuing.{goes_whole}
use Rattle.cmwq_service.proofs.client.HubClientCalls.wait.Goals as goal

pub invariant_of-self : goal.invariant_of-self
invariant_of-self g c = record {
  goes = goes_whole g.N.HubName.layout g.B.Start.start c.args.self.now.calls.caller c.wait.new.self.caller c.args.call
      c.wait.result c.args.self.now.goes c.wait.ensures.done c.wait.ensures.broke;
}
