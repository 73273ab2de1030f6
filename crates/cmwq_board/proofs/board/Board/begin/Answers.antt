use Rattle.std.specs.Prelude.{◌≡◌, None}
use Rattle.std.proofs.Common.{rules}
use Rattle.cmwq_board.specs.Waits.{Begins, begin_fault}
use Rattle.cmwq_board.proofs.Lends.{lends_core}
use Rattle.cmwq_board.proofs.board.Board.begin.Goals as goal

pub returns-in-Ok-clause-core : goal.returns-in-Ok-clause-core
returns-in-Ok-clause-core c =
    let b = c.args.self.now in
    let none : begin_fault b c.args.run c.args.call ≡ None = search rules in
    let begins : Begins c.args.run c.args.call c.lend.result b c.lend.new.self c.args.wakes.now c.lend.new.wakes =
    search rules in
    (lends_core c.args.run c.args.call c.lend.result b c.lend.new.self c.args.wakes.now c.lend.new.wakes none begins).0
