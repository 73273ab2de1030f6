use Rattle.std.proofs.Common.{rules, ◌<◌, length}
use Rattle.cmwq_timer.proofs.Counting.{has_room, written_counts}
use Rattle.cmwq_timer.proofs.timers.Timers.write.Goals as goal

pub raise-requires : goal.raise-requires
raise-requires c =
    let here : c.args.item.0 < length c.self.inside.timers = rw (← c.self.view_is) at c.requires in
    rw (c.lower.ensures, c.timer.ensures)
    (has_room c.self.inside.timers c.self.inside.booked.items c.self.invariant c.args.item.0 here c.args.timer
    (λ t is. search rules))

pub invariant_of-self : goal.invariant_of-self
invariant_of-self c =
    let here : c.args.item.0 < length c.self.inside.timers = rw (← c.self.view_is) at c.requires in
    rw (c.set.ensures, c.raise.ensures, c.lower.ensures, c.timer.ensures)
    (written_counts c.self.inside.timers c.self.inside.booked.items c.self.invariant c.args.item.0 here
    c.args.timer)
