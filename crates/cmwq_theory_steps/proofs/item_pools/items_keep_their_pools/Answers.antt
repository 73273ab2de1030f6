use Rattle.cmwq_theory_steps.proofs.Pools.{runs_are_in_pools, queued_where_it_runs, booked_where_it_runs}
use Rattle.cmwq_theory_steps.proofs.item_pools.items_keep_their_pools.Goals as goal

pub returns : goal.returns
returns c = assumption (runs_are_in_pools, queued_where_it_runs, booked_where_it_runs)
