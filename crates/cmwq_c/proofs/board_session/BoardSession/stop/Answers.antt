-- The board is stopped.
use Rattle.std.proofs.Common.{subst}
use Rattle.cmwq_board.specs.Boarded.{Boarded}
use Rattle.cmwq_c.specs.BoardCalls.{Stops}
use Rattle.cmwq_c.proofs.board_session.BoardSession.stop.Goals as goal

pub returns : goal.returns
returns c =
    let after = c.stop.new in
    subst (λ (b : Boarded). Stops b after.self c.tell.new.told) c.self.view_is
    record {
      before = c.new-wakes.result;
      after = after.wakes;
      nobody = c.new-wakes.ensures;
      step = (c.stop.ensures.new, c.stop.ensures.nobody, c.stop.ensures.all);
      numbers = c.tell.ensures;
    }
