use Rattle.cmwq_service.proofs.Ticking.{ticked_more}
use Rattle.cmwq_service.proofs.crew.Serving.tick_on.Goals as goal

pub loop-preserved : goal.loop-preserved
loop-preserved g c =
    let ticked = g.met.C.Client.when_waited c.loop.client c.tick.new.self _ _ c.in_ok-tick.ensures in
    ticked_more _ _ _ _ _ c.loop.invariant ticked.done
