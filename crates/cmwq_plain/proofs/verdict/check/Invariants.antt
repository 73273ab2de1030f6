use Rattle.cmwq_plain.specs.Common.{take, IsLegal, past_of}
use Rattle.cmwq_plain.proofs.verdict.check.Given as goal

-- the entries judged so far are a legal history
abbrev pub invariant-loop-at : goal.invariant-loop-at
invariant-loop-at l = IsLegal l.shape (past_of (take l.at l.entries))
