use Rattle.std.proofs.Common.{◌≡◌}
use Rattle.cmwq_bench.proofs.steps.make_calls.Given as goal

-- the layout stays, so all calls go on to fit it
abbrev pub invariant-loop-who : goal.invariant-loop-who
invariant-loop-who l = l.book.layout ≡ l.fn.book.layout
