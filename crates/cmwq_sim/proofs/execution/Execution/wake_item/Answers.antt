use Rattle.std.proofs.Common.{refl}
use Rattle.cmwq_sim.specs.Plan.{plan_of}
use Rattle.cmwq_sim.proofs.Executions.{nobody_woken, sleeper_below, has_room_to_wake, has_room_to_finish, wakes}
use Rattle.cmwq_sim.proofs.Executions.{wakes_to_end}
use Rattle.cmwq_sim.proofs.execution.Execution.wake_item.Goals as goal

pub returns-in_default : goal.returns-in_default
returns-in_default c =
    nobody_woken (plan_of c.args.scenario.now) c.args.at c.args.item c.args.self.now c.due.result c.requires.stands
    (rw c.deref.ensures.value at c.due.ensures) c.in_default.is

pub bounds-self-from : goal.bounds-self-from
bounds-self-from c =
    rw c.from.ensures
    (sleeper_below (plan_of c.args.scenario.now) c.args.at c.args.item c.args.self.now c.in-Some.sleeper c.due.result
    c.requires.stands (rw c.deref.ensures.value at c.due.ensures) c.in-Some.is)

pub call-requires-clause-room : goal.call-requires-clause-room
call-requires-clause-room c =
    rw (c.worker-slot.ensures, c.from.ensures)
    (has_room_to_wake (plan_of c.args.scenario.now) c.args.at c.args.item c.args.self.now c.in-Some.sleeper c.due.result
    c.requires.stands (rw c.deref.ensures.value at c.due.ensures) c.in-Some.is)

pub call-requires-in-None-clause-room : goal.call-requires-in-None-clause-room
call-requires-in-None-clause-room c =
    let booked = rw (c.worker-slot.ensures, c.from.ensures) at c.call.ensures in
    rw (c.worker-slot.ensures, c.from.ensures)
    (has_room_to_finish (plan_of c.args.scenario.now) c.args.at c.args.item c.args.self.now c.in-Some.sleeper
    c.due.result c.requires.stands (rw c.deref.ensures.value at c.due.ensures) c.in-Some.is _ booked
    c.in-None.ensures.part)

pub returns-in_ok-tell-in-Some-part_at : goal.returns-in_ok-tell-in-Some-part_at
returns-in_ok-tell-in-Some-part_at c =
    let booked = rw (c.worker-slot.ensures, c.from.ensures) at c.call.ensures in
    wakes (plan_of c.args.scenario.now) c.args.at c.args.item c.args.self.now c.in-Some.sleeper c.due.result
    c.requires.stands (rw c.deref.ensures.value at c.due.ensures) c.in-Some.is _ _ c.in-Some-part_at.ensures.part
    booked refl c.in_ok-push-in-Some-part_at.ensures.items c.forget.ensures c.in_ok-tell-in-Some-part_at.ensures

pub returns-in_ok-tell-in-None : goal.returns-in_ok-tell-in-None
returns-in_ok-tell-in-None c =
    let booked = rw (c.worker-slot.ensures, c.from.ensures) at c.call.ensures in
    let ended = rw (c.worker-slot.ensures, c.from.ensures) at c.call-in-None.ensures in
    wakes_to_end (plan_of c.args.scenario.now) c.args.at c.args.item c.args.self.now c.in-Some.sleeper c.due.result
    c.requires.stands (rw c.deref.ensures.value at c.due.ensures) c.in-Some.is _ booked c.in-None.ensures.part _
    ended refl refl c.forget.ensures c.in_ok-tell-in-None.ensures
