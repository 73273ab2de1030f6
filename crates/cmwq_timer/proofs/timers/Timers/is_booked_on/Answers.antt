use Rattle.std.proofs.Common.{rules, ◌<◌, ◌≡◌}
use Rattle.std.specs.Prelude.{slice_index}
use Rattle.std.proofs.lemmas.List.{get_or_read}
use Rattle.cmwq_timer.proofs.Counting.{booked_on}
use Rattle.cmwq_timer.proofs.timers.Timers.is_booked_on.Goals as goal

pub returns : goal.returns
returns c =
    let small : c.args.queue.0 < 256 = search rules in
    let counts = c.self.inside.booked.items in
    let read : c.index.result.now ≡ slice_index counts c.args.queue.0 =
    get_or_read counts c.args.queue.0 c.index.result.now (rw c.self.invariant.many small)
    (rw c.from.ensures at c.index.ensures) 0 in
    rw (← c.self.view_is, read) (booked_on c.self.inside.timers counts c.args.queue.0 c.self.invariant small)
