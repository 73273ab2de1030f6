use Rattle.cmwq_rt.specs.Common.{◌∙◌, refl}
use Rattle.cmwq_rt.proofs.Batching.{batch_none, batch_more}
use Rattle.cmwq_rt.proofs.hub.Hub.call_all.Goals as goal

pub loop-k-init : goal.loop-k-init
loop-k-init g c = (batch_none g.N.HubName.layout c.args.participant.now c.args.replies.now, refl)

pub loop-k-preserved : goal.loop-k-preserved
loop-k-preserved g c =
    let s = g.N.HubName.layout in
    let i = c.loop-k.invariant in
    let made = c.in-Ok.ensures.made.0 in (
      batch_more s c.args.participant.now c.args.calls.now c.loop-k.k _ c.args.replies.now c.loop-k.replies
          c.loop-k.participant c.call.new.participant c.in-Ok.reply c.loop-k-test.true c.requires.room i.0 made,
      made.gains.same ∙ i.1,
    )
