use Rattle.cmwq_pool.specs.Common.{map, range_with_len}
use Rattle.cmwq_pool.specs.Slots.{new_slot}
use Rattle.cmwq_pool.proofs.Seeing.{seen_at_first}
use Rattle.cmwq_pool.proofs.pools.Pools.new.Goals as goal

pub returns : goal.returns
returns c =
    rw (c.in_ok-lists.ensures, c.in_ok-workers.ensures, c.from.ensures)
    (seen_at_first c.args.pools c.args.items _ (map new_slot (range_with_len 0 c.args.workers)))
