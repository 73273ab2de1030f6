use Rattle.std.proofs.Common.{◌≡◌, ◌++◌}
use Rattle.cmwq_play.specs.Firsts.{of_pool}
use Rattle.cmwq_play.proofs.setup.push_pool.Given as goal

abbrev pub invariant-loop-index : goal.invariant-loop-index
invariant-loop-index l = l.workers.items ≡ l.fn.workers.items ++ of_pool l.index l.pool
