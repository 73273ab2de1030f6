use Rattle.std.proofs.Common.{◌≡◌, ◌++◌}
use Rattle.std.specs.List.{flat_map, range_with_len}
use Rattle.cmwq_model.specs.Prelude.{past_of, worker_at}
use Rattle.cmwq_key.specs.Keys.{told_slot}
use Rattle.cmwq_key.specs.Codes.{codes}
use Rattle.cmwq_key.proofs.key.pools.push_slots.Given as goal

abbrev pub invariant-loop-index : goal.invariant-loop-index
invariant-loop-index l = l.key.items
    ≡ l.fn.key.items
    ++ codes (flat_map (λ k. told_slot (past_of l.state.entries) l.numbered (worker_at l.pool k))
    (range_with_len 0 l.index))
