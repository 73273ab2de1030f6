use Rattle.cmwq_key.specs.Keys.{told_running}
use Rattle.cmwq_key.proofs.Coding.{list_goes_on}
use Rattle.cmwq_key.proofs.key.opened.push_all_running.Goals as goal

pub loop-queueing-preserved : goal.loop-queueing-preserved
loop-queueing-preserved c =
    list_goes_on (told_running c.args.numbered.now) c.args.all.now _ _ _ _ _ c.loop-queueing.queueing-index
    c.loop-queueing-test.true c.loop-queueing.invariant
    c.in_ok-push_running.ensures
