use Rattle.cmwq_refinement.proofs.PoolSteps.{pools_at_first, pools_refine}
use Rattle.cmwq_refinement.proofs.PoolNext.{nexts_are_next}
use Rattle.cmwq_refinement.proofs.PoolReads.{runnables_are_runnable, starts_enlist_alike, idle_retire_alike}
use Rattle.cmwq_refinement.proofs.PoolReads.{slots_for_workers, slots_are_workers}
use Rattle.cmwq_refinement.proofs.PoolMay.{replies_apply_to_pools}
use Rattle.cmwq_refinement.proofs.PoolAdds.{active_may_be_added, items_are_listed_once}
use Rattle.cmwq_refinement.proofs.pools.pools_refine.Goals as goal

ruleset history = (pools_at_first, pools_refine, replies_apply_to_pools, active_may_be_added, items_are_listed_once)

ruleset slots = (
  nexts_are_next,
  runnables_are_runnable,
  starts_enlist_alike,
  idle_retire_alike,
  slots_for_workers,
  slots_are_workers,
)

pub returns : goal.returns
returns c = assumption (history, slots)
