use Rattle.std.specs.Prelude.{◌≡◌, ◌||◌, not, true}
use Rattle.std.proofs.Common.{ap, ◌∙◌, refl, sym, subst}
use Rattle.std.proofs.lemmas.Bool.{both_ways}
use Rattle.cmwq_core.specs.History.{History, next_entry, past_in, takes}
use Rattle.cmwq_dispatch.specs.Dispatched.{past_now}
use Rattle.cmwq_model.specs.Prelude.{runs_awake}
use Rattle.cmwq_model.specs.declared.call.Call.TheVariants as call
use Rattle.cmwq_model.specs.declared.id.Who.TheVariants.{Worker}
use Rattle.cmwq_board.specs.Waits.{may_sleep}
use Rattle.cmwq_board.proofs.Tickets.{same_by_worker}
use Rattle.cmwq_board.proofs.beginning.sleeps.Goals as goal

pub unreachable-requires : goal.unreachable-requires
unreachable-requires c =
    let d = c.args.dispatch.now in
    let w = c.in-Some.worker in
    let awake : runs_awake (past_now d) w ≡ true =
    sym (c.runs_awake.ensures
    ∙ ap (λ (k : History). runs_awake (past_in k) w) (c.state.ensures ∙ c.execution-2.ensures))
    ∙ c.if-not-runs_awake.false in
    let room : (not (runs_awake (past_now d) w) || takes d.history (Worker w) call.Sleep) ≡ true =
    subst (λ o. may_sleep d o ≡ true) c.in-Some.is c.requires.room in
    both_ways _ (sym c.in-Err.ensures.room)
    (ap (λ b. not b || takes d.history (Worker w) call.Sleep) (sym awake) ∙ room)

pub returns-clause-tickets : goal.returns-clause-tickets
returns-clause-tickets c =
    same_by_worker (past_now c.args.dispatch.now) (past_now c.enter-slept.new.dispatch)
    (next_entry c.args.dispatch.now.history (Worker c.in-Some.worker) call.Sleep) c.in-Some.worker
    c.in-Ok.ensures.tickets refl
