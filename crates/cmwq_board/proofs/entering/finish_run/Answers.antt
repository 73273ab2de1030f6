use Rattle.std.specs.Prelude.{◌≡◌, Some}
use Rattle.std.proofs.Common.{ap, refl, sym, ◌∙◌}
use Rattle.cmwq_core.specs.History.{History, next_entry, past_in}
use Rattle.cmwq_dispatch.specs.Dispatched.{past_now}
use Rattle.cmwq_model.specs.declared.call.Call.TheVariants as call
use Rattle.cmwq_model.specs.declared.id.Who.TheVariants.{Worker}
use Rattle.cmwq_model.specs.Prelude.{run}
use Rattle.cmwq_board.proofs.Started.{finish_number}
use Rattle.cmwq_board.proofs.Tickets.{same_by_worker}
use Rattle.cmwq_board.proofs.entering.finish_run.Goals as goal

pub returns-in-Ok-clause-finishes : goal.returns-in-Ok-clause-finishes
returns-in-Ok-clause-finishes c =
    let h = c.args.dispatch.now.history in
    let runs : run (past_in h) c.args.worker ≡ Some c.in-Some.number =
    sym (c.run.ensures ∙ ap (λ (k : History). run (past_in k) c.args.worker) (c.state.ensures ∙ c.execution.ensures))
    ∙ c.in-Some.is in
    record {
      mid = c.enter-finished.new.dispatch;
      meanwhile = c.enter-finished.new.wakes;
      number = finish_number h c.args.worker c.in-Some.number c.requires.awake runs;
      finish = record { made = c.in-Ok.ensures.made; named = c.in-Ok.ensures.named };
      retire = c.retire-retired.ensures.retires;
    }

pub returns-in-Ok-clause-tickets : goal.returns-in-Ok-clause-tickets
returns-in-Ok-clause-tickets c =
    c.retire-retired.ensures.tickets
    ∙ same_by_worker (past_now c.args.dispatch.now) (past_now c.enter-finished.new.dispatch)
    (next_entry c.args.dispatch.now.history (Worker c.args.worker) call.Finish) c.args.worker c.in-Ok.ensures.tickets
    refl
