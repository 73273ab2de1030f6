use Rattle.std.proofs.Common.{◌≡◌}
use Rattle.cmwq_explain.proofs.verdict.first_wrong.Given as goal

abbrev pub invariant-loop-at : goal.invariant-loop-at
invariant-loop-at l = l.judge.layout ≡ l.fn.judge.layout
