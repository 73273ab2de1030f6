use Rattle.std.proofs.Common.{[]}
use Rattle.cmwq_service.proofs.Continuing.{goes_gains}
use Rattle.cmwq_service.proofs.client.HubClientClient.busy.Goals as goal

pub invariant_of-self : goal.invariant_of-self
invariant_of-self g c = record {
  goes = goes_gains g.B.Start.start c.args.self.now.calls.caller c.busy.new.self [] c.args.self.now.goes
      c.busy.ensures.own;
}
