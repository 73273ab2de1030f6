use Rattle.cmwq_model.specs.Prelude.{past_of}
use Rattle.cmwq_key.specs.Keys.{told_unstarted}
use Rattle.cmwq_key.proofs.Coding.{list_goes_on}
use Rattle.cmwq_key.proofs.key.opened.push_all_unstarted.Goals as goal

pub loop-queueing-preserved : goal.loop-queueing-preserved
loop-queueing-preserved c =
    list_goes_on (told_unstarted c.args.state.now.layout (past_of c.args.state.now.entries) c.args.numbered.now)
    c.args.all.now _ _ _ _ _ c.loop-queueing.queueing-index c.loop-queueing-test.true c.loop-queueing.invariant
    c.in_ok-push_unstarted.ensures
