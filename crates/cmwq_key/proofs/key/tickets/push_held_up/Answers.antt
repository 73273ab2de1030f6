use Rattle.cmwq_model.specs.Prelude.{holds_up, past_of}
use Rattle.cmwq_model.specs.declared.record.Queueing.{Queueing}
use Rattle.cmwq_key.specs.Codes.{told_flag}
use Rattle.cmwq_key.proofs.Coding.{list_goes_on}
use Rattle.cmwq_key.proofs.key.tickets.push_held_up.Goals as goal

pub loop-queueing-preserved : goal.loop-queueing-preserved
loop-queueing-preserved c =
    list_goes_on
    (λ (x : Queueing). told_flag
    (holds_up (past_of c.args.state.now.entries) c.args.ticket.number c.args.ticket.call x)) c.args.queueings.now _ _
    _ _ _ c.loop-queueing.queueing-index c.loop-queueing-test.true c.loop-queueing.invariant
    c.in_ok-push_whether_held_up.ensures
