use Rattle.std.proofs.Common.{◌∙◌, refl}
use Rattle.cmwq_core.specs.History.{next_entry}
use Rattle.cmwq_model.specs.declared.call.Call.TheVariants as call
use Rattle.cmwq_model.specs.declared.id.Who.TheVariants.{Caller}
use Rattle.cmwq_board.proofs.Tickets.{plain_entered}
use Rattle.cmwq_board.proofs.entering.tick.Goals as goal

pub returns-in-Ok-clause-tickets : goal.returns-in-Ok-clause-tickets
returns-in-Ok-clause-tickets c =
    let d = c.args.dispatch.now in
    let n = c.enter-ticked.new.dispatch in
    c.fire_due.ensures.tickets
    ∙ plain_entered d n (next_entry d.history (Caller c.args.caller) (call.Tick c.args.ticks)) c.in-Ok.ensures.tickets
    c.in-Ok.ensures.legal c.in-Ok.ensures.past c.in-Ok.ensures.stays.layout refl (λ k. refl)
