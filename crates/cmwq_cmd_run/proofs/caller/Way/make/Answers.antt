use Rattle.std.proofs.Common.{List, length, arith, ap, refl, subst, ◌+◌}
use Rattle.cmwq_model.specs.declared.call.Call.{Call}
use Rattle.cmwq_rt.specs.Scripts.{HasFollowed}
use Rattle.cmwq_rt_scripts.proofs.Following.{followed_few}
use Rattle.cmwq_cmd_run.proofs.Following.{on_way_made}
use Rattle.cmwq_cmd_run.proofs.caller.Way.make.Goals as goal

pub overflow_add-self : goal.overflow_add-self
overflow_add-self g c =
    let few =
    followed_few g.N.HubName.layout c.as_slice.result.now c.in-Ok.full c.args.caller.now c.follow.new.self
    c.in-Ok.ensures.followed in
    let same = ap length c.as_slice.ensures in
    omega (arith, c.requires.few, few, same)

pub returns-in-Ok-clause-way : goal.returns-in-Ok-clause-way
returns-in-Ok-clause-way g c v calls is =
    let s = g.N.HubName.layout in
    on_way_made s v calls c.args.self.now
    (record { next = c.new-self.result; full = c.args.self.now.full + c.in-Ok.full }) c.in-Ok.full c.args.caller.now
    c.follow.new.self is
    (subst (λ (xs : List Call). HasFollowed s xs c.in-Ok.full c.args.caller.now c.follow.new.self) c.as_slice.ensures
    c.in-Ok.ensures.followed)
    c.new-self.ensures refl
