use Rattle.std.proofs.Common.{◌∙◌, ap, arith, sym}
use Rattle.cmwq_model.specs.Prelude.{Layout}
use Rattle.cmwq_waits.specs.HeldUp.{Scene}
use Rattle.cmwq_waits.specs.Looks.{is_item_held}
use Rattle.cmwq_waits.specs.declared.run_wait.RunWait.{RunWait}
use Rattle.cmwq_waits.proofs.Places.{run_stays}
use Rattle.cmwq_waits.proofs.Held.{opened_item}
use Rattle.cmwq_waits.proofs.Loops.{none_in_all, none_more, seen_at}
use Rattle.cmwq_waits.proofs.Filling.{item_holds, none_of_items, none_of_runs}
use Rattle.cmwq_waits.proofs.look.Look.holds_queue.Goals as goal

pub holds_item-requires-clause-item : goal.holds_item-requires-clause-item
holds_item-requires-clause-item c =
    let scene = c.args.self.now in
    let sees = seen_at scene.past c.args.set.now c.loop-wait.wait-index _ c.requires.seen c.loop-wait-test.true in
    opened_item scene c.scene.ensures _ (run_stays scene c.scene.ensures _ sees.is_open sees.has_started)

pub loop-wait-preserved : goal.loop-wait-preserved
loop-wait-preserved c =
    let scene = c.args.self.now in
    none_more (λ (w : RunWait). is_item_held scene c.args.set.now c.args.ticket w.run.item.0) c.args.set.now
    c.loop-wait.wait-index _ c.loop-wait.invariant c.loop-wait-test.true
    (sym c.holds_item.ensures ∙ c.if-holds_item.false)

pub returns-then-holds_item : goal.returns-then-holds_item
returns-then-holds_item c =
    sym
    (item_holds c.args.self.now c.scene.ensures c.args.set.now c.args.ticket _
    (sym c.holds_item.ensures ∙ c.if-holds_item.true))

pub returns-then-not-fill : goal.returns-then-not-fill
returns-then-not-fill c =
    let scene = c.args.self.now in
    sym
    (none_of_runs scene c.scene.ensures c.args.set.now c.args.ticket c.args.queue.0 c.requires.waits
    (c.fill.ensures c.if-not-fill.true)
    (none_in_all (λ (w : RunWait). is_item_held scene c.args.set.now c.args.ticket w.run.item.0) c.args.set.now
    c.loop-wait.wait-index c.loop-wait-test.false c.loop-wait.invariant))

pub returns-then-holds_item-2 : goal.returns-then-holds_item-2
returns-then-holds_item-2 c =
    sym
    (item_holds c.args.self.now c.scene.ensures c.args.set.now c.args.ticket _
    (sym c.holds_item-in-loop-item.ensures ∙ c.if-holds_item-2.true))

pub returns : goal.returns
returns c =
    let scene = c.args.self.now in
    let layout_is = ap (λ (d : Scene). d.layout) c.self.view_is in
    sym
    (none_of_items scene c.scene.ensures c.args.set.now c.args.ticket c.loop-item.item
    (rw (← layout_is)
    (let items = ap (λ (s : Layout). s.items) c.counts-item-end.ensures.counts in
    omega (arith, items, c.loop-item-test.false)))
    c.loop-item.invariant)
