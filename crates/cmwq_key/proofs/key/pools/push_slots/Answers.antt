use Rattle.cmwq_model.specs.Prelude.{past_of, worker_at}
use Rattle.cmwq_key.specs.Keys.{told_slot}
use Rattle.cmwq_key.proofs.Coding.{codes_go_on, none_more}
use Rattle.cmwq_key.proofs.key.pools.push_slots.Goals as goal

pub loop-index-init : goal.loop-index-init
loop-index-init c = none_more c.args.key.now.items

pub loop-index-preserved : goal.loop-index-preserved
loop-index-preserved c =
    codes_go_on (λ k. told_slot (past_of c.args.state.now.entries) c.args.numbered.now (worker_at c.args.pool k)) _ _ _
    c.loop-index.index c.loop-index.invariant c.in_ok-push_slot.ensures
