use Rattle.cmwq_inflight.specs.Flights.{flights_with_run}
use Rattle.cmwq_inflight.specs.Keeping.{flights_by}
use Rattle.cmwq_inflight.proofs.Steps.{with_keys, Leaves, started_leaves}
use Rattle.cmwq_inflight.proofs.flights.Flights.start.Goals as goal
use Rattle.cmwq_inflight.proofs.flights.Flights.start.Goals.{After-none-row}

leaves : (c : After-none-row)
    → Leaves c.self.inside.queueings
    (with_keys c.self.inside.rows.items c.from.result c.index_mut-row.result.now.unstarted c.none-row.result)
    (flights_with_run (flights_by c.self.inside.queueings c.self.inside.rows.items) c.args.item.0)
leaves c =
    rw c.none-row.ensures
    (started_leaves c.self.inside.queueings c.self.inside.rows.items c.from.result c.args.item.0
    c.index_mut-row.result.now c.self.invariant c.from.ensures
    (rw (← c.self.view_is) at c.requires.free)
    (rw (← c.self.view_is) at c.requires.unstarted)
    c.index_mut-row.ensures.value)

pub invariant_of-self : goal.invariant_of-self
invariant_of-self c = (leaves (goal.at.invariant_of-self c).After-none-row).kept

pub returns : goal.returns
returns c = rw (← c.self.view_is) (leaves (goal.at.returns c).After-none-row).seen
