use Rattle.std.proofs.Common.{sym, ◌∙◌}
use Rattle.cmwq_inflight.specs.Flights.{flights_without_run}
use Rattle.cmwq_inflight.specs.Keeping.{flights_by}
use Rattle.cmwq_inflight.proofs.Steps.{with_keys, Leaves, finished_leaves}
use Rattle.cmwq_inflight.proofs.flights.Flights.finish.Goals as goal
use Rattle.cmwq_inflight.proofs.flights.Flights.finish.Goals.{After-remove}

leaves : (c : After-remove)
    → Leaves c.remove.new.self
    (with_keys c.self.inside.rows.items c.from.result c.take.new.self c.index_mut.result.now.unstarted)
    (flights_without_run (flights_by c.self.inside.queueings c.self.inside.rows.items) c.args.item.0)
leaves c =
    rw c.take.ensures.after
    (finished_leaves c.self.inside.queueings c.remove.new.self c.self.inside.rows.items c.from.result c.args.item.0
    c.unwrap-run.result c.index_mut.result.now c.self.invariant
    (record { updates = c.remove.ensures.updates; less = c.remove.ensures.len; capacity = c.remove.ensures.capacity })
    c.from.ensures
    (rw (← c.self.view_is) at c.requires)
    c.index_mut.ensures.value
    (sym c.take.ensures.value ∙ c.unwrap-run.ensures))

pub invariant_of-self : goal.invariant_of-self
invariant_of-self c = (leaves (goal.at.invariant_of-self c).After-remove).kept

pub returns : goal.returns
returns c = rw (← c.self.view_is) (leaves (goal.at.returns c).After-remove).seen
