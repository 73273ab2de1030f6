use Rattle.std.proofs.Common.{rules, ◌≡◌}
use Rattle.cmwq_timer.proofs.Under.{lows_under, middles_under, highs_under, last_under}
use Rattle.cmwq_timer.proofs.tournament.Tournament.first_at.Goals as goal

pub returns-in-1 : goal.returns-in-1
returns-in-1 c = let t = c.self.inside in
    rw (c.in-1.is, ← c.self.view_is, c.node_at.ensures, c.deref-in-1.ensures.value)
    (lows_under t.rows.items t.low.items t.middle.items t.high.items t.last c.self.invariant.1 c.args.node)

pub returns-in-2 : goal.returns-in-2
returns-in-2 c = let t = c.self.inside in
    rw (c.in-2.is, ← c.self.view_is, c.node_at-in-2.ensures, c.deref-in-2.ensures.value)
    (middles_under t.rows.items t.low.items t.middle.items t.high.items t.last c.self.invariant.1 c.args.node)

pub returns-in-3 : goal.returns-in-3
returns-in-3 c = let t = c.self.inside in
    rw (c.in-3.is, ← c.self.view_is, c.node_at-in-3.ensures, c.deref-in-3.ensures.value)
    (highs_under t.rows.items t.low.items t.middle.items t.high.items t.last c.self.invariant.1 c.args.node)

pub returns-in_default : goal.returns-in_default
returns-in_default c =
    let t = c.self.inside in
    let four : c.args.level ≡ 4 = search rules in
    rw (four, c.if-node-eq0.true, ← c.self.view_is)
    (last_under t.rows.items t.low.items t.middle.items t.high.items t.last c.self.invariant.1 0)
