use Rattle.std.proofs.Common.{set, refl, ap}
use Rattle.cmwq_sim.specs.Plan.{plan_of}
use Rattle.cmwq_sim.proofs.Executions.{has_room_to_take, starts_below, some_part, starts}
use Rattle.cmwq_sim.proofs.execution.Execution.start_item.Goals as goal

pub call-requires-clause-room : goal.call-requires-clause-room
call-requires-clause-room c =
    rw c.worker.ensures
    (has_room_to_take (plan_of c.args.scenario.now) c.args.self.now c.args.index c.args.item c.requires.stands
    c.requires.taker)

pub bounds-self-from : goal.bounds-self-from
bounds-self-from c =
    rw c.from.ensures
    (starts_below (plan_of c.args.scenario.now) c.args.self.now c.args.index c.args.item c.requires.stands
    c.requires.taker)

pub unreachable-requires : goal.unreachable-requires
unreachable-requires c =
    some_part (plan_of c.args.scenario.now) c.args.self.now c.args.index c.args.item c.requires.stands c.requires.taker
    c.in-None.ensures.part

pub returns : goal.returns
returns c =
    let booked = rw c.worker.ensures at c.call.ensures in
    starts (plan_of c.args.scenario.now) c.args.self.now c.args.index c.args.item c.requires.stands c.requires.taker _
    c.in-Some.burn c.in-Some.ensures.part booked (ap (λ i. set c.args.self.now.slots i c.args.index) c.from.ensures)
    c.in_ok-push.ensures.items refl refl
