use Rattle.std.proofs.Common.{◌≡◌}
use Rattle.cmwq_explain.proofs.rooms.first_full_of.Given as goal

-- the execution has the shape of the file
abbrev pub invariant-loop-who : goal.invariant-loop-who
invariant-loop-who l = l.execution.layout ≡ l.file.shape
