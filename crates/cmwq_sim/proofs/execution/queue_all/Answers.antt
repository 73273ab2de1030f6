use Rattle.std.proofs.Common.{◌≡◌, length, subst, arith}
use Rattle.cmwq_sim.specs.Plan.{plan_of}
use Rattle.cmwq_sim.proofs.Executions.{none_yet, has_room_to_queue, one_queued, queued_shown, QueuedSoFar}
use Rattle.cmwq_sim.proofs.execution.queue_all.Goals as goal

pub loop-item-init : goal.loop-item-init
loop-item-init c = none_yet (plan_of c.args.scenario.now) c.args.book.now c.requires.fresh

pub call-requires-clause-room : goal.call-requires-clause-room
call-requires-clause-room c =
    rw (c.queue_of-queue.ensures, c.from.ensures)
    (has_room_to_queue (plan_of c.args.scenario.now) c.loop-item.book c.loop-item.item c.requires.limits
    c.loop-item.invariant (omega arith))

pub loop-item-preserved : goal.loop-item-preserved
loop-item-preserved c =
    let booked = rw (c.queue_of-queue.ensures, c.from.ensures) at c.call.ensures in
    one_queued (plan_of c.args.scenario.now) c.loop-item.book c.loop-item.item c.requires.limits c.loop-item.invariant
    (omega arith) _ booked

pub returns-clause-shows : goal.returns-clause-shows
returns-clause-shows c =
    let done : c.loop-item.item ≡ length (plan_of c.args.scenario.now).items = omega arith in
    λ slot. queued_shown (plan_of c.args.scenario.now) c.loop-item.book c.requires.limits
    (subst (QueuedSoFar (plan_of c.args.scenario.now) c.loop-item.book) done c.loop-item.invariant) slot
