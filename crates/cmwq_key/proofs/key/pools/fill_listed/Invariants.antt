use Rattle.std.proofs.Common.{◌≡◌, ◌-◌, length, take}
use Rattle.std.specs.Prelude.{slice_get}
use Rattle.cmwq_model.specs.Prelude.{past_of, worklist}
use Rattle.cmwq_key.proofs.key.pools.fill_listed.Given as goal

abbrev pub invariant-loop-next : goal.invariant-loop-next
invariant-loop-next l = record {
  list : l.list.items ≡ take (length l.list.items) (worklist l.state.layout (past_of l.state.entries) l.pool);
  next : l.next ≡ slice_get (worklist l.state.layout (past_of l.state.entries) l.pool) (length l.list.items);
}

abbrev pub decreases-loop-next : goal.decreases-loop-next
decreases-loop-next l =
    length (worklist l.state.layout (past_of l.state.entries) l.pool) - length l.list.items
