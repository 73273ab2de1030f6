use Rattle.std.proofs.Common.{◌≡◌, ◌≤◌, map, replicate}
use Rattle.std.specs.Prelude.{vec_capacity}
use Rattle.std.specs.List.{range_with_len}
use Rattle.cmwq_pool.specs.Slots.{new_slot}
use Rattle.cmwq_pool.proofs.pool_workers.new_workers.Given as goal

abbrev pub invariant-loop-index : goal.invariant-loop-index
invariant-loop-index l =
    record {
      items : l.made.items ≡ replicate l.index (map new_slot (range_with_len 0 l.workers));
      room : l.many ≤ vec_capacity l.made;
    }
