use Rattle.std.specs.Prelude.{◌∷◌, IfOk}
use Rattle.std.proofs.Common.{ap, ◌∙◌, subst}
use Rattle.cmwq_core.specs.Plans.{IsPlan}
use Rattle.cmwq_dispatch.specs.Dispatched.{past_now}
use Rattle.cmwq_board.specs.Lent.{TicketsGoOn}
use Rattle.cmwq_board.specs.Steps.{after_entry}
use Rattle.cmwq_board.proofs.entering.enter.Goals as goal

pub returns-in-Ok-clause-made : goal.returns-in-Ok-clause-made
returns-in-Ok-clause-made c =
    let d = c.args.dispatch.now in
    let plan : IsPlan d.history c.args.who c.args.call c.in-Ok.plan =
    subst (λ r. IfOk r (IsPlan d.history c.args.who c.args.call)) c.in-Ok.is c.plan-planned.ensures.plan in
    c.make.ensures.made
    ∙ ap (λ e. record (after_entry d e) { asleep = c.make.new.dispatch.asleep }) plan.mark.is_next

pub returns-in-Ok-clause-past : goal.returns-in-Ok-clause-past
returns-in-Ok-clause-past c =
    let d = c.args.dispatch.now in
    let plan : IsPlan d.history c.args.who c.args.call c.in-Ok.plan =
    subst (λ r. IfOk r (IsPlan d.history c.args.who c.args.call)) c.in-Ok.is c.plan-planned.ensures.plan in
    c.make.ensures.past ∙ ap (λ e. e ∷ past_now d) plan.mark.is_next

pub returns-in-Ok-clause-tickets : goal.returns-in-Ok-clause-tickets
returns-in-Ok-clause-tickets c =
    let d = c.args.dispatch.now in
    let plan : IsPlan d.history c.args.who c.args.call c.in-Ok.plan =
    subst (λ r. IfOk r (IsPlan d.history c.args.who c.args.call)) c.in-Ok.is c.plan-planned.ensures.plan in
    subst (λ e. TicketsGoOn e (past_now d) (past_now c.make.new.dispatch)) plan.mark.is_next c.make.ensures.tickets
