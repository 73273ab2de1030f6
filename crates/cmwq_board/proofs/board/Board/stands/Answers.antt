use Rattle.std.proofs.Common.{subst}
use Rattle.cmwq_dispatch.specs.Dispatched.{past_now}
use Rattle.cmwq_waits.specs.HeldUp.{AreWaiting}
use Rattle.cmwq_waits.specs.Refused.{AreApart}
use Rattle.cmwq_board.specs.Boarded.{Boarded, past_of_board}
use Rattle.cmwq_board.specs.Runs.{waiting_runs}
use Rattle.cmwq_board.proofs.WaitingRuns.{waits_are_apart, waits_are_waiting}
use Rattle.cmwq_board.proofs.board.Board.stands.Goals as goal

pub returns-clause-waiting : goal.returns-clause-waiting
returns-clause-waiting c =
    let i = c.self.inside in
    subst (λ (b : Boarded). AreWaiting (past_of_board b) (waiting_runs b)) c.self.view_is
    (waits_are_waiting i.dispatch.history.layout (past_now i.dispatch) i.lent.items c.stands.ensures.legal
    c.self.invariant.3.lent)

pub returns-clause-apart : goal.returns-clause-apart
returns-clause-apart c =
    let i = c.self.inside in
    subst (λ (b : Boarded). AreApart (waiting_runs b)) c.self.view_is
    (waits_are_apart i.dispatch.history.layout (past_now i.dispatch) i.lent.items c.stands.ensures.legal
    c.self.invariant.3.once)
