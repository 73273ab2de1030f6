use Rattle.cmwq_core.specs.History.{past_in}
use Rattle.cmwq_sim.specs.Takers.{NoTaker}
use Rattle.cmwq_sim.proofs.execution.Execution.taker.Given as goal

abbrev pub invariant-loop-index : goal.invariant-loop-index
invariant-loop-index l = NoTaker l.self.book.layout (past_in l.self.book) l.index
