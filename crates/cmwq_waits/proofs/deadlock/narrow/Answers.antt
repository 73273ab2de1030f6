use Rattle.std.proofs.Common.{ap, arith, length}
use Rattle.cmwq_waits.proofs.Loops.{at_place, kept_room}
use Rattle.cmwq_waits.specs.Refused.{stays}
use Rattle.cmwq_waits.proofs.deadlock.narrow.Goals as goal

pub is_held_up-requires-clause-known : goal.is_held_up-requires-clause-known
is_held_up-requires-clause-known c =
    c.requires.known _ (at_place c.args.set.now c.loop-wait.wait-index _ c.loop-wait-test.true)

pub push_reserved-requires : goal.push_reserved-requires
push_reserved-requires c =
    let i = c.loop-wait.invariant in
    let room =
    kept_room (stays c.args.look.now c.args.set.now) c.args.set.now c.loop-wait.wait-index c.loop-wait-test.true in
    omega (arith, i.1, i.2, room, ap length i.0, c.requires.room, c.clear.ensures.capacity)
