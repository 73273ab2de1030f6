use Rattle.std.proofs.Common.{◌∙◌, ap, arith, sym}
use Rattle.std.proofs.lemmas.Bool.{le-ltb}
use Rattle.cmwq_lemmas.proofs.Members.{contained_in}
use Rattle.cmwq_waits.specs.HeldUp.{Scene}
use Rattle.cmwq_waits.proofs.Held.{earlier_is_open, inactive_later}
use Rattle.cmwq_waits.proofs.look.Look.is_active.Goals as goal

pub is_active-requires : goal.is_active-requires
is_active-requires c =
    let x = c.args.queueing.now in
    let past_is = ap (λ (d : Scene). d.past) c.self.view_is in
    let many = rw past_is at c.number.ensures in
    rw past_is
    (earlier_is_open c.args.self.now c.scene.ensures x (contained_in c.args.self.now.opened x c.requires)
    (omega (arith, many, c.if-queueing-number.true)))

pub returns-else-queueing-number : goal.returns-else-queueing-number
returns-else-queueing-number c =
    let x = c.args.queueing.now in
    let past_is = ap (λ (d : Scene). d.past) c.self.view_is in
    let many = rw past_is at c.number.ensures in
    le-ltb x.number c.number.result c.if-queueing-number.false
    ∙ sym (inactive_later c.args.self.now.layout c.args.self.now.past x (omega (arith, many, c.if-queueing-number.false)))
