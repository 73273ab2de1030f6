use Rattle.std.proofs.Common.{◌≡◌}
use Rattle.cmwq_trial.proofs.party.replay.Given as goal

-- the book has the shape that it is made for
abbrev pub invariant-loop-entry : goal.invariant-loop-entry
invariant-loop-entry l = l.book.layout ≡ l.shape
