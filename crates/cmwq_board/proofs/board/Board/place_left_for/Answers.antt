use Rattle.std.proofs.Common.{subst, sym}
use Rattle.std.proofs.lemmas.Bool.{both_ways}
use Rattle.cmwq_board.specs.Boarded.{Boarded, layout_of, past_of_board}
use Rattle.cmwq_board.specs.Lent.{HasLeft}
use Rattle.cmwq_board.specs.declared.left.Sought.TheVariants.{For}
use Rattle.cmwq_board.proofs.Sought.{none_sought}
use Rattle.cmwq_board.proofs.board.Board.place_left_for.Goals as goal

pub returns-then-not-self-clause-is : goal.returns-then-not-self-clause-is
returns-then-not-self-clause-is c =
    sym (none_sought c.args.self.now (For c.args.call)
    (λ h. both_ways _ c.if-not-self.true
    (c.self.invariant.4
    (subst (λ (x : Boarded). HasLeft (layout_of x) (past_of_board x) x.lent) (sym c.self.view_is) h))))
