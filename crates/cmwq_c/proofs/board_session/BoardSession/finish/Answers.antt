-- A finish.
use Rattle.std.specs.Prelude.{◌≡◌, Result}
use Rattle.std.proofs.Common.{ap, subst, subst₂, sym, ◌∙◌}
use Rattle.cmwq_model.specs.declared.id.Who.TheVariants.{Worker}
use Rattle.cmwq_board.specs.Boarded.{Boarded}
use Rattle.cmwq_board.specs.Machine.{Named}
use Rattle.cmwq_board.specs.declared.board.Finish.{Finish}
use Rattle.cmwq_board.specs.declared.fault.BoardFault.{BoardFault}
use Rattle.cmwq_c.specs.BoardCalls.{Ends}
use Rattle.cmwq_c.specs.BoardStatuses.{fault_number, finish_status, outcome_status}
use Rattle.cmwq_c.proofs.Faults.{never_done}
use Rattle.cmwq_c.proofs.board_session.BoardSession.finish.Goals as goal
use Rattle.cmwq_c.proofs.board_session.BoardSession.finish.Goals.{in-Ok, in-Err}

pub returns-clause-status : goal.returns-clause-status
returns-clause-status c =
    let outcome = c.finish-finished.ensures.outcome in
    elim c.match-finished.branch [
      | in-Ok w ↦ w.result-is
          ∙ subst₂ (λ o (b : Boarded). 0 ≡ finish_status b o) c.in-Some.ensures c.self.view_is
          (ap outcome_status (sym w.in-Ok.is ∙ outcome))
      | in-Err w ↦ w.result-is ∙ w.fault_number.ensures
          ∙ subst₂ (λ o (b : Boarded). fault_number w.in-Err.fault ≡ finish_status b o) c.in-Some.ensures
          c.self.view_is (ap outcome_status (sym w.in-Err.is ∙ outcome))
    ]

pub returns-clause-ends : goal.returns-clause-ends
returns-clause-ends c done =
    let after = c.finish-finished.new in
    let finished = c.finish-finished.ensures in
    let made = c.match-finished in
    elim made.branch [
      | in-Ok w ↦ subst₂ (λ o (b : Boarded). Ends o b after.self made.told) c.in-Some.ensures c.self.view_is (
        w.in-Ok._finish,
        record { core = finished.core; came_to = sym w.in-Ok.is ∙ finished.outcome },
        record {
          before = c.new-wakes.result;
          after = after.wakes;
          nobody = c.new-wakes.ensures;
          step = subst (λ (r : Result Finish BoardFault). Named r (Worker c.in-Some.worker) c.self.inside.board
              after.self c.new-wakes.result after.wakes) w.in-Ok.is finished.named;
          numbers = w.told-is ∙ w.tell.ensures;
        },
      )
      | in-Err w ↦ absurd (never_done w.in-Err.fault _ (w.result-is ∙ w.fault_number.ensures) done)
    ]

pub returns-clause-kept : goal.returns-clause-kept
returns-clause-kept c fails =
    let after = c.finish-finished.new in
    elim c.match-finished.branch [
      | in-Ok w ↦ absurd (fails w.result-is)
      | in-Err w ↦
          let same = subst (λ (r : Result Finish BoardFault). Named r (Worker c.in-Some.worker) c.self.inside.board
          after.self c.new-wakes.result after.wakes) w.in-Err.is c.finish-finished.ensures.named in
          (same.0 ∙ c.self.view_is, w.told-is)
    ]
