-- Ticks that go by.
use Rattle.std.specs.Prelude.{◌≡◌, ℕ, Ok, Result}
use Rattle.std.proofs.Common.{ap, subst, sym, ◌∙◌}
use Rattle.cmwq_model.specs.declared.id.Who.TheVariants.{Caller}
use Rattle.cmwq_board.specs.Boarded.{Boarded}
use Rattle.cmwq_board.specs.Machine.{Named}
use Rattle.cmwq_board.specs.declared.fault.BoardFault.{BoardFault}
use Rattle.cmwq_c.specs.BoardCalls.{AdvancesTo}
use Rattle.cmwq_c.specs.BoardStatuses.{advance_status, caller_of, fault_number, outcome_status}
use Rattle.cmwq_c.proofs.Faults.{never_done}
use Rattle.cmwq_c.proofs.board_session.BoardSession.advance.Goals as goal
use Rattle.cmwq_c.proofs.board_session.BoardSession.advance.Goals.{in-Ok, in-Err}

pub returns-clause-status : goal.returns-clause-status
returns-clause-status c =
    let outcome = c.advance-advanced.ensures.outcome in
    let a = c.args in
    elim c.match-advanced.branch [
      | in-Ok w ↦ w.result-is
          ∙ subst (λ (b : Boarded). 0 ≡ advance_status b a.caller a.ticks) c.self.view_is
          (ap outcome_status (sym w.in-Ok.is ∙ outcome))
      | in-Err w ↦ w.result-is ∙ w.fault_number.ensures
          ∙ subst (λ (b : Boarded). fault_number w.in-Err.fault ≡ advance_status b a.caller a.ticks) c.self.view_is
          (ap outcome_status (sym w.in-Err.is ∙ outcome))
    ]

pub returns-clause-advances : goal.returns-clause-advances
returns-clause-advances c done =
    let after = c.advance-advanced.new in
    let advanced = c.advance-advanced.ensures in
    let made = c.match-advanced in
    let a = c.args in
    elim made.branch [
      | in-Ok w ↦ subst (λ (b : Boarded). AdvancesTo a.caller a.ticks b after.self made.now made.told) c.self.view_is (
        record { core = advanced.core; came_to = ap Ok w.now-is ∙ sym w.in-Ok.is ∙ advanced.outcome },
        record {
          before = c.new-wakes.result;
          after = after.wakes;
          nobody = c.new-wakes.ensures;
          step = subst (λ (r : Result ℕ BoardFault). Named r (Caller (caller_of a.caller)) c.self.inside.board
              after.self c.new-wakes.result after.wakes) w.in-Ok.is advanced.named;
          numbers = w.told-is ∙ w.tell.ensures;
        },
      )
      | in-Err w ↦ absurd (never_done w.in-Err.fault _ (w.result-is ∙ w.fault_number.ensures) done)
    ]

pub returns-clause-kept : goal.returns-clause-kept
returns-clause-kept c fails =
    let after = c.advance-advanced.new in
    elim c.match-advanced.branch [
      | in-Ok w ↦ absurd (fails w.result-is)
      | in-Err w ↦
          let same = subst (λ (r : Result ℕ BoardFault). Named r (Caller (caller_of c.args.caller)) c.self.inside.board
          after.self c.new-wakes.result after.wakes) w.in-Err.is c.advance-advanced.ensures.named in
          (same.0 ∙ c.self.view_is, w.now-is, w.told-is)
    ]
