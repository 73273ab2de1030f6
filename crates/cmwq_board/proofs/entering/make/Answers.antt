use Rattle.std.proofs.Common.{subst, sym}
use Rattle.cmwq_dispatch.specs.Dispatched.{past_now}
use Rattle.cmwq_dispatch.proofs.Steady.{newest}
use Rattle.cmwq_theory_steps.proofs.TicketSteps.{unended_go_on}
use Rattle.cmwq_board.specs.Lent.{TicketsGoOn}
use Rattle.cmwq_board.proofs.entering.make.Goals as goal

pub returns-clause-past : goal.returns-clause-past
returns-clause-past c =
    newest c.args.dispatch.now.history c.commit-reply.new.self.history c.args.plan.now.mark.entry
    c.commit-reply.ensures.enters.history

pub returns-clause-tickets : goal.returns-clause-tickets
returns-clause-tickets c =
    let d = c.args.dispatch.now in
    let e = c.args.plan.now.mark.entry in
    subst (TicketsGoOn e (past_now d))
    (sym (newest d.history c.commit-reply.new.self.history e c.commit-reply.ensures.enters.history))
    (unended_go_on d.history.layout (past_now d) e c.requires.plan.2.legal)
