-- A wait that is left.
use Rattle.std.specs.Prelude.{◌≡◌, IfOk, Result, ⊤}
use Rattle.std.proofs.Common.{ap, subst, sym, ◌∙◌}
use Rattle.cmwq_board.specs.Boarded.{Boarded}
use Rattle.cmwq_board.specs.Machine.{LeaveNamed}
use Rattle.cmwq_board.specs.Waits.{WaitsNoMore}
use Rattle.cmwq_board.specs.declared.fault.BoardFault.{BoardFault}
use Rattle.cmwq_c.specs.BoardCalls.{LeavesBy}
use Rattle.cmwq_c.specs.BoardStatuses.{caller_of, fault_number, leave_status, outcome_status}
use Rattle.cmwq_c.proofs.Faults.{never_done}
use Rattle.cmwq_c.proofs.board_session.BoardSession.leave.Goals as goal
use Rattle.cmwq_c.proofs.board_session.BoardSession.leave.Goals.{in-Ok, in-Err}

pub returns-clause-status : goal.returns-clause-status
returns-clause-status c =
    let outcome = c.leaves-left.ensures.outcome in
    elim c.match-left.branch [
      | in-Ok w ↦ w.result-is
          ∙ subst (λ (b : Boarded). 0 ≡ leave_status b c.args.party) c.self.view_is
          (ap outcome_status (sym w.in-Ok.is ∙ outcome))
      | in-Err w ↦ w.result-is ∙ w.fault_number.ensures
          ∙ subst (λ (b : Boarded). fault_number w.in-Err.fault ≡ leave_status b c.args.party) c.self.view_is
          (ap outcome_status (sym w.in-Err.is ∙ outcome))
    ]

pub returns-clause-leaves : goal.returns-clause-leaves
returns-clause-leaves c done =
    let after = c.leaves-left.new in
    let left = c.leaves-left.ensures in
    let made = c.match-left in
    elim made.branch [
      | in-Ok w ↦ subst (λ (b : Boarded). LeavesBy c.args.party b after.self made.told) c.self.view_is (
        record { core = left.core; came_to = sym w.in-Ok.is ∙ left.outcome },
        subst (λ (r : Result ⊤ BoardFault). IfOk r (λ u. WaitsNoMore (caller_of c.args.party) c.self.inside.board
            after.self)) w.in-Ok.is left.gone,
        record {
          before = c.new-wakes.result;
          after = after.wakes;
          nobody = c.new-wakes.ensures;
          step = subst (λ (r : Result ⊤ BoardFault). LeaveNamed r (caller_of c.args.party) c.self.inside.board
              after.self c.new-wakes.result after.wakes) w.in-Ok.is left.named;
          numbers = w.told-is ∙ w.tell.ensures;
        },
      )
      | in-Err w ↦ absurd (never_done w.in-Err.fault _ (w.result-is ∙ w.fault_number.ensures) done)
    ]

pub returns-clause-kept : goal.returns-clause-kept
returns-clause-kept c fails =
    let after = c.leaves-left.new in
    elim c.match-left.branch [
      | in-Ok w ↦ absurd (fails w.result-is)
      | in-Err w ↦
          let same = subst (λ (r : Result ⊤ BoardFault). LeaveNamed r (caller_of c.args.party) c.self.inside.board
          after.self c.new-wakes.result after.wakes) w.in-Err.is c.leaves-left.ensures.named in
          (same.0 ∙ c.self.view_is, w.told-is)
    ]
