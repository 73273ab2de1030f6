use Rattle.std.proofs.Common.{ap}
use Rattle.cmwq_waits.specs.HeldUp.{Scene, places_ahead}
use Rattle.cmwq_waits.proofs.Loops.{capped_more, capped_all, seen_at}
use Rattle.cmwq_waits.proofs.look.Look.have_all_places.Goals as goal

pub places_ahead-requires : goal.places_ahead-requires
places_ahead-requires c =
    seen_at c.args.self.now.past c.args.set.now c.loop-wait.wait-index _ c.requires.seen c.loop-wait-test.true

pub loop-wait-preserved : goal.loop-wait-preserved
loop-wait-preserved c =
    capped_more (places_ahead c.args.self.now c.args.of.now) c.args.set.now c.loop-wait.wait-index _ c.loop-wait.held
    c.places_ahead.result c.saturating_add-held.result c.loop-wait-test.true c.loop-wait.invariant
    c.places_ahead.ensures.is c.saturating_add-held.ensures

pub returns : goal.returns
returns c =
    let layout_is = ap (λ (d : Scene). d.layout) c.self.view_is in
    let past_is = ap (λ (d : Scene). d.past) c.self.view_is in
    capped_all (places_ahead c.args.self.now c.args.of.now) c.args.set.now c.loop-wait.wait-index c.loop-wait.held
    c.max_active.result _ c.loop-wait-test.false c.loop-wait.invariant c.max_active.type_inv
    (rw (c.self.invariant.0, layout_is, past_is) at c.max_active.ensures)
