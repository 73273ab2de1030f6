use Rattle.std.specs.Prelude.{◌+◌, if◌then◌else◌}
use Rattle.std.proofs.Common.{ap, arith, ◌∙◌}
use Rattle.cmwq_dispatch.specs.Dispatched.{past_now}
use Rattle.cmwq_model.specs.Prelude.{is_drain}
use Rattle.cmwq_model.specs.declared.entry.Entry.{Entry}
use Rattle.cmwq_board.specs.Lent.{unended_drains}
use Rattle.cmwq_board.proofs.Places.{drains_same}
use Rattle.cmwq_board.proofs.Tickets.{ended_by_call, ended_counts, grown}
use Rattle.cmwq_board.proofs.entering.end_ticket.Goals as goal

pub returns-clause-tickets : goal.returns-clause-tickets
returns-clause-tickets c =
    let d = c.args.dispatch.now in
    let next = c.requires.plan.mark.is_next in
    c.wake.ensures.tickets ∙ c.fire_after.ensures.tickets
    ∙ ended_by_call (past_now d) (past_now c.make.new.dispatch) c.args.plan.now.mark.entry c.args.ticket
    c.make.ensures.tickets (ap (λ (e : Entry). e.who) next) (ap (λ (e : Entry). e.call) next) c.requires.done

pub returns-clause-drains : goal.returns-clause-drains
returns-clause-drains c =
    let d = c.args.dispatch.now in
    let m = c.make.new.dispatch in
    let e = c.args.plan.now.mark.entry in
    let next = c.requires.plan.mark.is_next in
    ap (λ n. n + (if is_drain c.args.ticket.call then 1 else 0))
    (drains_same (past_now m) (past_now c.wake.new.dispatch) (c.wake.ensures.tickets ∙ c.fire_after.ensures.tickets)
    ∙ ap unended_drains c.make.ensures.past)
    ∙ ended_counts d.history.layout (past_now d) e c.args.ticket c.requires.plan.legal (ap (λ (x : Entry). x.who) next)
    (ap (λ (x : Entry). x.call) next) c.requires.done c.requires.held

pub returns-clause-grows : goal.returns-clause-grows
returns-clause-grows c =
    let made = grown c.args.dispatch.now c.make.new.dispatch c.args.plan.now.mark.entry c.make.ensures.past in
    let fired = c.fire_after.ensures.more in
    let woken = c.wake.ensures.more in
    omega (arith, made, fired, woken)
