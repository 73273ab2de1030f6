use Rattle.std.proofs.Common.{◌∙◌, ap}
use Rattle.cmwq_inflight.specs.Flights.{flights_with_run}
use Rattle.cmwq_inflight.proofs.Steps.{opened_and_started}
use Rattle.cmwq_inflight.proofs.flights.Flights.put_run.Goals as goal

pub returns-in-Some : goal.returns-in-Some
returns-in-Some c =
    c.start.ensures ∙ (ap (λ fs. flights_with_run fs c.args.item.0) c.open.ensures
    ∙ opened_and_started c.args.self.now c.args.item.0 c.in-Some.queueing c.args.run c.in-Some.is
    (rw c.in-Some.is at c.requires.of_item) c.requires.there c.requires.none)
