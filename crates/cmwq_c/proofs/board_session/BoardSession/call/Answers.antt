-- A call of one entry.
use Rattle.std.specs.Prelude.{◌≡◌, Result}
use Rattle.std.proofs.Common.{ap, subst, subst₂, sym, ◌∙◌}
use Rattle.cmwq_model.specs.declared.reply.Reply.{Reply}
use Rattle.cmwq_board.specs.Boarded.{Boarded}
use Rattle.cmwq_board.specs.Machine.{Named}
use Rattle.cmwq_board.specs.declared.fault.BoardFault.{BoardFault}
use Rattle.cmwq_c.specs.BoardCalls.{Calls}
use Rattle.cmwq_c.specs.BoardStatuses.{fault_number, outcome_status, single_status}
use Rattle.cmwq_c.proofs.Faults.{never_done}
use Rattle.cmwq_c.proofs.board_session.BoardSession.call.Goals as goal
use Rattle.cmwq_c.proofs.board_session.BoardSession.call.Goals.{in-Ok, in-Err}

pub returns-clause-status : goal.returns-clause-status
returns-clause-status c =
    let outcome = c.call-called.ensures.outcome in
    elim c.match-called.branch [
      | in-Ok w ↦ w.result-is
          ∙ subst₂ (λ o (b : Boarded). 0 ≡ single_status b o) c.in-Some.ensures c.self.view_is
          (ap outcome_status (sym w.in-Ok.is ∙ outcome))
      | in-Err w ↦ w.result-is ∙ w.fault_number.ensures
          ∙ subst₂ (λ o (b : Boarded). fault_number w.in-Err.fault ≡ single_status b o) c.in-Some.ensures
          c.self.view_is (ap outcome_status (sym w.in-Err.is ∙ outcome))
    ]

pub returns-clause-calls : goal.returns-clause-calls
returns-clause-calls c done =
    let after = c.call-called.new in
    let called = c.call-called.ensures in
    let made = c.match-called in
    elim made.branch [
      | in-Ok w ↦ subst₂ (λ o (b : Boarded). Calls o b after.self made.reply made.told) c.in-Some.ensures
          c.self.view_is (
            w.in-Ok.made,
            record { core = called.core; came_to = sym w.in-Ok.is ∙ called.outcome },
            record {
              before = c.new-wakes.result;
              after = after.wakes;
              nobody = c.new-wakes.ensures;
              step = subst (λ (r : Result Reply BoardFault). Named r c.in-Some.who c.self.inside.board after.self
                  c.new-wakes.result after.wakes) w.in-Ok.is called.named;
              numbers = w.told-is ∙ w.tell.ensures;
            },
            w.reply-is ∙ w.reply_numbers.ensures,
          )
      | in-Err w ↦ absurd (never_done w.in-Err.fault _ (w.result-is ∙ w.fault_number.ensures) done)
    ]

pub returns-clause-kept : goal.returns-clause-kept
returns-clause-kept c fails =
    let after = c.call-called.new in
    elim c.match-called.branch [
      | in-Ok w ↦ absurd (fails w.result-is)
      | in-Err w ↦
          let same = subst (λ (r : Result Reply BoardFault). Named r c.in-Some.who c.self.inside.board after.self
          c.new-wakes.result after.wakes) w.in-Err.is c.call-called.ensures.named in
          (same.0 ∙ c.self.view_is, w.reply-is, w.told-is)
    ]
