-- A start.
use Rattle.std.specs.Prelude.{◌≡◌, Result}
use Rattle.std.proofs.Common.{ap, subst, subst₂, sym, ◌∙◌}
use Rattle.cmwq_board.specs.Boarded.{Boarded}
use Rattle.cmwq_board.specs.Machine.{StartNamed}
use Rattle.cmwq_board.specs.declared.board.Start.{Start}
use Rattle.cmwq_board.specs.declared.fault.BoardFault.{BoardFault}
use Rattle.cmwq_c.specs.BoardCalls.{StartsAs}
use Rattle.cmwq_c.specs.BoardStatuses.{fault_number, outcome_status, start_done, start_status}
use Rattle.cmwq_c.proofs.Faults.{never_started, start_fault_stays, start_is_done}
use Rattle.cmwq_c.proofs.board_session.BoardSession.start.Goals as goal
use Rattle.cmwq_c.proofs.board_session.BoardSession.start.Goals.{in-Ok, in-Err}

pub returns-clause-status : goal.returns-clause-status
returns-clause-status c =
    let outcome = c.start-begun.ensures.outcome in
    elim c.match-begun.branch [
      | in-Ok w ↦ ap start_done (w.result-is ∙ w.started.ensures.status) ∙ start_is_done w.in-Ok.answer
          ∙ subst₂ (λ o (b : Boarded). 0 ≡ start_status b o) c.in-Some.ensures c.self.view_is
          (ap outcome_status (sym w.in-Ok.is ∙ outcome))
      | in-Err w ↦ ap start_done (w.result-is ∙ w.fault_number.ensures) ∙ start_fault_stays w.in-Err.fault
          ∙ subst₂ (λ o (b : Boarded). fault_number w.in-Err.fault ≡ start_status b o) c.in-Some.ensures
          c.self.view_is (ap outcome_status (sym w.in-Err.is ∙ outcome))
    ]

pub returns-clause-starts : goal.returns-clause-starts
returns-clause-starts c done =
    let after = c.start-begun.new in
    let begun = c.start-begun.ensures in
    let made = c.match-begun in
    elim made.branch [
      | in-Ok w ↦ (
        w.in-Ok.answer,
        w.result-is ∙ w.started.ensures.status,
        w.item-is ∙ w.started.ensures.item,
        w.number-is ∙ w.started.ensures.number,
        subst₂ (λ o (b : Boarded). StartsAs o w.in-Ok.answer b after.self made.told) c.in-Some.ensures c.self.view_is (
          record { core = begun.core; came_to = sym w.in-Ok.is ∙ begun.outcome },
          record {
            before = c.new-wakes.result;
            after = after.wakes;
            nobody = c.new-wakes.ensures;
            step = subst (λ (r : Result Start BoardFault). StartNamed r c.in-Some.worker c.self.inside.board after.self
                c.new-wakes.result after.wakes) w.in-Ok.is begun.named;
            numbers = w.told-is ∙ w.tell.ensures;
          },
        ),
      )
      | in-Err w ↦ absurd (never_started w.in-Err.fault _ (w.result-is ∙ w.fault_number.ensures) done)
    ]

pub returns-clause-kept : goal.returns-clause-kept
returns-clause-kept c fails =
    let after = c.start-begun.new in
    elim c.match-begun.branch [
      | in-Ok w ↦ absurd (fails (ap start_done (w.result-is ∙ w.started.ensures.status) ∙ start_is_done w.in-Ok.answer))
      | in-Err w ↦
          let same = subst (λ (r : Result Start BoardFault). StartNamed r c.in-Some.worker c.self.inside.board after.self
          c.new-wakes.result after.wakes) w.in-Err.is c.start-begun.ensures.named in
          (same.0 ∙ c.self.view_is, w.item-is, w.number-is, w.told-is)
    ]
