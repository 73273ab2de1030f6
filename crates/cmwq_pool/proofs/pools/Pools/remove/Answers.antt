use Rattle.std.proofs.Common.{arith}
use Rattle.cmwq_pool.proofs.Tasks.{task_parts}
use Rattle.cmwq_pool.proofs.Seeing.{there, item_removed, none_removed}
use Rattle.cmwq_pool.proofs.pools.Pools.remove.Goals as goal

pub is_listed-requires-clause-list : goal.is_listed-requires-clause-list
is_listed-requires-clause-list c = grind (arith, there)

pub remove-requires : goal.remove-requires
remove-requires c = grind (arith, task_parts, c.args.item.0)

pub returns-then-is_listed : goal.returns-then-is_listed
returns-then-is_listed c = grind (arith, there, task_parts, item_removed, c.args.item.0)

pub returns-else-is_listed : goal.returns-else-is_listed
returns-else-is_listed c = grind (arith, there, none_removed, c.args.item.0)
