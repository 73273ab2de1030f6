use Rattle.cmwq_core.proofs.judge.check.Goals as goal

pub verdict-verdict-requires-clause-fitting : goal.verdict-verdict-requires-clause-fitting
verdict-verdict-requires-clause-fitting c = rw c.in_ok-judge.ensures c.requires.fitting
