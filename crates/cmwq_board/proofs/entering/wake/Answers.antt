use Rattle.std.specs.Prelude.{◌≡◌, ◌≤◌, Some, false, true}
use Rattle.std.proofs.Common.{ap, arith, ◌∙◌, refl, subst, sym}
use Rattle.std.proofs.lemmas.Bool.{both_ways}
use Rattle.cmwq_core.specs.History.{History, next_entry, past_in}
use Rattle.cmwq_dispatch.specs.Dispatched.{past_now}
use Rattle.cmwq_model.specs.Prelude.{IsLegal, room_needed, runs_asleep}
use Rattle.cmwq_model.specs.declared.call.Call.TheVariants as call
use Rattle.cmwq_model.specs.declared.id.Who.TheVariants.{Worker}
use Rattle.cmwq_board.specs.Steps.{has_worker}
use Rattle.cmwq_board.specs.Waits.{IsWoken, MayEnterOf}
use Rattle.cmwq_board.proofs.Tickets.{grown, same_by_worker}
use Rattle.cmwq_board.proofs.WaitingRuns.{outsider_sleeps_not}
use Rattle.cmwq_board.proofs.Woken.{takes_wake}
use Rattle.cmwq_board.proofs.entering.wake.Goals as goal

pub returns-in-Ok-clause-tickets : goal.returns-in-Ok-clause-tickets
returns-in-Ok-clause-tickets c =
    same_by_worker (past_now c.args.dispatch.now) (past_now c.enter-woke.new.dispatch)
    (next_entry c.args.dispatch.now.history (Worker c.in-Some.worker) call.Wake) c.in-Some.worker
    c.in-Ok.ensures.tickets refl

pub returns-in-Ok-clause-more : goal.returns-in-Ok-clause-more
returns-in-Ok-clause-more c =
    let more = grown c.args.dispatch.now c.enter-woke.new.dispatch
    (next_entry c.args.dispatch.now.history (Worker c.in-Some.worker) call.Wake) c.in-Ok.ensures.past in
    omega (arith, more)

pub returns-then-not-has_worker-clause-woken : goal.returns-then-not-has_worker-clause-woken
returns-then-not-has_worker-clause-woken c =
    let d = c.args.dispatch.now in
    let w = c.in-Some.worker in
    let v = c.args.wakes.now in
    let outside : has_worker d.history.layout w ≡ false =
    sym (c.has_worker.ensures ∙ ap (λ s. has_worker s w) c.shape.ensures) ∙ c.if-not-has_worker.true in
    let legal =
    subst (λ (h : History). IsLegal h.layout (past_in h)) c.execution.ensures c.len-legal.ensures.legal in
    let asleep : runs_asleep (past_now d) w ≡ false =
    outsider_sleeps_not d.history.layout (past_now d) w legal outside in
    subst (λ o. IsWoken o d d v v) (sym c.in-Some.is)
    (subst (λ b. MayEnterOf (Some w) call.Wake b d d v v) (sym asleep) (refl, refl))

pub unreachable-requires : goal.unreachable-requires
unreachable-requires c =
    let d = c.args.dispatch.now in
    let w = c.in-Some.worker in
    let there : has_worker d.history.layout w ≡ true =
    sym (c.has_worker.ensures ∙ ap (λ s. has_worker s w) c.shape.ensures) ∙ c.if-not-has_worker.false in
    let legal =
    subst (λ (h : History). IsLegal h.layout (past_in h)) c.execution.ensures c.len-legal.ensures.legal in
    let within =
    subst (λ (h : History). room_needed h.layout (past_in h) ≤ h.room) c.execution.ensures
    c.len-legal.ensures.needed in
    let asleep : runs_asleep (past_now d) w ≡ true =
    sym (c.runs_asleep.ensures
    ∙ ap (λ (h : History). runs_asleep (past_in h) w) (c.state.ensures ∙ c.execution-2.ensures))
    ∙ c.if-runs_asleep.true in
    both_ways _ (sym c.in-Err.ensures.room) (takes_wake d.history w there legal within asleep)
