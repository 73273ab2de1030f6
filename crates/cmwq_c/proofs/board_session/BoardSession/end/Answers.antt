-- A wait that is to be ended.
use Rattle.std.proofs.Common.{subst, ◌∙◌}
use Rattle.cmwq_board.specs.Boarded.{Boarded}
use Rattle.cmwq_c.specs.BoardCalls.{EndsAs}
use Rattle.cmwq_c.proofs.Faults.{never_ended}
use Rattle.cmwq_c.proofs.board_session.BoardSession.end.Goals as goal
use Rattle.cmwq_c.proofs.board_session.BoardSession.end.Goals.{in-Ok, in-Err}

pub returns-clause-ends : goal.returns-clause-ends
returns-clause-ends c done =
    let after = c.end-ended.new in
    let made = c.match-ended in
    elim made.branch [
      | in-Ok w ↦ (
        w.in-Ok.answer,
        w.result-is ∙ w.ended_number.ensures,
        subst (λ (b : Boarded). EndsAs c.args.party w.in-Ok.answer b after.self made.told) c.self.view_is
            record {
              before = c.new-wakes.result;
              after = after.wakes;
              nobody = c.new-wakes.ensures;
              step = w.in-Ok.ensures.ends;
              numbers = w.told-is ∙ w.tell.ensures;
            },
      )
      | in-Err w ↦ absurd (never_ended w.in-Err.fault _ (w.result-is ∙ w.fault_number.ensures) done)
    ]
