-- The board fails.
use Rattle.std.proofs.Common.{subst}
use Rattle.cmwq_board.specs.Boarded.{Boarded}
use Rattle.cmwq_c.specs.BoardCalls.{Fails}
use Rattle.cmwq_c.proofs.board_session.BoardSession.fail.Goals as goal

pub returns : goal.returns
returns c =
    let after = c.fail.new in
    subst (λ (b : Boarded). Fails b after.self c.tell.new.told) c.self.view_is
    record {
      before = c.new-wakes.result;
      after = after.wakes;
      nobody = c.new-wakes.ensures;
      step = (c.fail.ensures.new, c.fail.ensures.nobody, c.fail.ensures.all);
      numbers = c.tell.ensures;
    }
