use Rattle.std.proofs.Common.{refl}
use Rattle.cmwq_core.specs.History.{next_entry}
use Rattle.cmwq_dispatch.specs.Dispatched.{past_now}
use Rattle.cmwq_model.specs.declared.call.Call.TheVariants as call
use Rattle.cmwq_model.specs.declared.id.Who.TheVariants.{Worker}
use Rattle.cmwq_board.proofs.Tickets.{same_by_worker}
use Rattle.cmwq_board.proofs.entering.retire.Goals as goal

pub returns-in-Ok-clause-tickets : goal.returns-in-Ok-clause-tickets
returns-in-Ok-clause-tickets c =
    same_by_worker (past_now c.args.dispatch.now) (past_now c.enter-retired.new.dispatch)
    (next_entry c.args.dispatch.now.history (Worker c.args.worker) call.Retire) c.args.worker c.in-Ok.ensures.tickets
    refl
