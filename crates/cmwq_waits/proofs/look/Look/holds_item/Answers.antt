use Rattle.std.proofs.Common.{◌∙◌, ap, refl, sym}
use Rattle.std.specs.Prelude.{◌&&◌}
use Rattle.std.specs.List.{list_any}
use Rattle.std.specs.Prelude.{option_to_list}
use Rattle.cmwq_lemmas.proofs.Members.{in_contained}
use Rattle.cmwq_waits.specs.HeldUp.{Scene, is_held_up_by, is_kept}
use Rattle.cmwq_waits.proofs.Held.{held_alone, held_some, open_or_next, unstarted_of}
use Rattle.cmwq_waits.proofs.look.Look.holds_item.Goals as goal

pub holds_up-requires-clause-open : goal.holds_up-requires-clause-open
holds_up-requires-clause-open c =
    let scene = c.args.self.now in
    rw (ap (λ (d : Scene). d.past) c.self.view_is)
    (open_or_next scene c.scene.ensures c.in-Some.queueing
    (unstarted_of scene c.args.item.0 c.unstarted.result c.in-Some.queueing c.unstarted.ensures c.in-Some.is).0)

pub keeps_unstarted-requires-clause-open : goal.keeps_unstarted-requires-clause-open
keeps_unstarted-requires-clause-open c =
    let scene = c.args.self.now in
    in_contained scene.opened c.in-Some.queueing
    (unstarted_of scene c.args.item.0 c.unstarted.result c.in-Some.queueing c.unstarted.ensures c.in-Some.is).0

pub keeps_unstarted-requires-clause-unstarted : goal.keeps_unstarted-requires-clause-unstarted
keeps_unstarted-requires-clause-unstarted c =
    let scene = c.args.self.now in
    (unstarted_of scene c.args.item.0 c.unstarted.result c.in-Some.queueing c.unstarted.ensures c.in-Some.is).1

pub returns-then-holds_up : goal.returns-then-holds_up
returns-then-holds_up c =
    let scene = c.args.self.now in
    let up = rw (ap (λ (d : Scene). d.past) c.self.view_is) at c.holds_up.ensures in
    ap (λ b. b && c.keeps_unstarted.result) (sym c.if-holds_up.true)
    ∙ held_some scene c.args.set.now c.args.ticket c.args.item.0 c.unstarted.result c.in-Some.queueing c.holds_up.result
    c.keeps_unstarted.result c.unstarted.ensures c.in-Some.is up c.keeps_unstarted.ensures

pub returns-else-holds_up : goal.returns-else-holds_up
returns-else-holds_up c =
    let scene = c.args.self.now in
    let up = rw (ap (λ (d : Scene). d.past) c.self.view_is) at c.holds_up.ensures in
    c.if-holds_up.false
    ∙ (ap (λ b. b && is_kept scene c.args.set.now c.in-Some.queueing) (sym c.if-holds_up.false)
    ∙ held_some scene c.args.set.now c.args.ticket c.args.item.0 c.unstarted.result c.in-Some.queueing c.holds_up.result
    (is_kept scene c.args.set.now c.in-Some.queueing) c.unstarted.ensures c.in-Some.is up refl)

pub returns-in-None : goal.returns-in-None
returns-in-None c =
    let scene = c.args.self.now in
    sym
    (held_alone scene c.args.set.now c.args.ticket c.args.item.0 c.unstarted.result c.unstarted.ensures
    ∙ ap (λ o. list_any (is_held_up_by scene c.args.set.now c.args.ticket) (option_to_list o)) c.in-None.is)
