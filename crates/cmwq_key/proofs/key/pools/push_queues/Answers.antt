use Rattle.cmwq_model.specs.Prelude.{past_of}
use Rattle.cmwq_key.specs.Keys.{told_queue}
use Rattle.cmwq_key.proofs.Coding.{codes_go_on, none_more}
use Rattle.cmwq_key.proofs.key.pools.push_queues.Goals as goal

pub loop-queue-init : goal.loop-queue-init
loop-queue-init c = none_more c.args.key.now.items

pub loop-queue-preserved : goal.loop-queue-preserved
loop-queue-preserved c =
    codes_go_on (told_queue c.args.state.now.layout (past_of c.args.state.now.entries)) _ _ _ c.loop-queue.queue
    c.loop-queue.invariant c.in_ok-push_queue.ensures
