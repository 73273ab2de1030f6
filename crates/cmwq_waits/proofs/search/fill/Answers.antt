use Rattle.std.proofs.Common.{ap, arith, length, take}
use Rattle.std.proofs.lemmas.List.{take_all}
use Rattle.cmwq_lemmas.proofs.Lists.{filter_shorter}
use Rattle.cmwq_waits.proofs.Loops.{kept_room}
use Rattle.cmwq_waits.specs.Refused.{is_other}
use Rattle.cmwq_waits.proofs.search.fill.Goals as goal

pub push_reserved-requires : goal.push_reserved-requires
push_reserved-requires c =
    let i = c.loop-wait.invariant in
    let room = kept_room (is_other c.args.last.run.number) c.args.waits.now c.loop-wait.wait-index c.loop-wait-test.true in
    omega (arith, i.1, i.2, room, ap length i.0, c.requires, c.clear.ensures.capacity)

pub push_reserved-requires-2 : goal.push_reserved-requires-2
push_reserved-requires-2 c =
    let i = c.loop-wait.invariant in
    let shorter = filter_shorter (is_other c.args.last.run.number) (take c.loop-wait.wait-index c.args.waits.now) in
    let all = take_all c.loop-wait.wait-index c.args.waits.now c.loop-wait-test.false in
    omega (arith, i.1, i.2, shorter, ap length all, ap length i.0, c.requires, c.clear.ensures.capacity)
