use Rattle.cmwq_core.proofs.Judging.{AreJudged}
use Rattle.cmwq_core.proofs.judge.verdict.Given as goal

abbrev pub invariant-loop-at : goal.invariant-loop-at
invariant-loop-at l = AreJudged l.fn.judge.layout l.entries l.at l.judge
