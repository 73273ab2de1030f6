-- A wait that begins.
use Rattle.std.proofs.Common.{subst, subst₂, ◌∙◌}
use Rattle.cmwq_board.specs.Boarded.{Boarded}
use Rattle.cmwq_board.specs.Waits.{Begins}
use Rattle.cmwq_c.specs.BoardCalls.{BeginsAs}
use Rattle.cmwq_c.proofs.Faults.{wait_never_begun}
use Rattle.cmwq_c.proofs.board_session.BoardSession.begin.Goals as goal
use Rattle.cmwq_c.proofs.board_session.BoardSession.begin.Goals.{in-Ok, in-Err}

pub returns-clause-begins : goal.returns-clause-begins
returns-clause-begins c done =
    let board = c.self.inside.board in
    let before = c.new-wakes.result in
    let after = c.begin-begun.new in
    let made = c.match-begun in
    elim made.branch [
      | in-Ok w ↦ (
        w.in-Ok.answer,
        w.result-is ∙ w.began.ensures.status,
        w.party-is ∙ w.began.ensures.party,
        w.reply-is ∙ w.began.ensures.reply,
        subst₂ (λ o (b : Boarded). BeginsAs o w.in-Ok.answer b after.self made.told) c.in-Some.ensures c.self.view_is
            record {
              before = c.new-wakes.result;
              after = after.wakes;
              nobody = c.new-wakes.ensures;
              step = subst (λ run. Begins run c.in-Some.call w.in-Ok.answer board after.self before after.wakes)
                  c.run_of.ensures w.in-Ok.ensures.begins;
              numbers = w.told-is ∙ w.tell.ensures;
            },
      )
      | in-Err w ↦ absurd (wait_never_begun w.in-Err.fault _ (w.result-is ∙ w.wait_fault_number.ensures) done)
    ]
