use Rattle.std.proofs.Common.{arith}
use Rattle.cmwq_pool.proofs.Workers.{none_runs}
use Rattle.cmwq_pool.proofs.pool_workers.PoolWorkers.run_item.Goals as goal

pub returns-else-self-gt0 : goal.returns-else-self-gt0
returns-else-self-gt0 c = grind (arith, none_runs)
