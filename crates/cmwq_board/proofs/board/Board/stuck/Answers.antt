use Rattle.std.specs.Prelude.{List, Some}
use Rattle.std.proofs.Common.{ap, ap₂, ◌∙◌, sym}
use Rattle.cmwq_core.specs.History.{History, past_in}
use Rattle.cmwq_dispatch.specs.Dispatched.{past_now}
use Rattle.cmwq_model.specs.Prelude.{Layout}
use Rattle.cmwq_waits.specs.Registered.{refusal_of}
use Rattle.cmwq_board.specs.Boarded.{Boarded}
use Rattle.cmwq_board.specs.Runs.{waits_in}
use Rattle.cmwq_board.specs.Waits.{stuck_now}
use Rattle.cmwq_board.specs.declared.lending.Lending.{Lending}
use Rattle.cmwq_board.proofs.board.Board.stuck.Goals as goal

pub returns-in-Some-clause-is : goal.returns-in-Some-clause-is
returns-in-Some-clause-is c =
    let d = c.self.inside.dispatch in
    let w = c.in-Some.worker in
    let call = c.args.call in
    c.refuses.ensures.is
    ∙ ap₂ (λ (s : Layout) (h : History). refusal_of s (past_in h) (waits_in (past_in h) c.deref.result.now) w call)
    c.shape.ensures c.execution.ensures
    ∙ ap (λ (ls : List Lending). refusal_of d.history.layout (past_now d) (waits_in (past_now d) ls) w call)
    c.deref.ensures.value
    ∙ ap (λ (b : Boarded). stuck_now b (Some w) call) c.self.view_is
    ∙ ap (λ o. stuck_now c.args.self.now o call) (sym c.in-Some.is)
