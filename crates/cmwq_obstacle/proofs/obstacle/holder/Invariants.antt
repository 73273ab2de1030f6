use Rattle.std.proofs.Common.{◌≡◌, find, None}
use Rattle.std.specs.List.{range_with_len}
use Rattle.cmwq_model.specs.Prelude.{is_holding, past_of}
use Rattle.cmwq_obstacle.proofs.obstacle.holder.Given as goal

abbrev pub invariant-loop-index : goal.invariant-loop-index
invariant-loop-index l =
    find (is_holding l.state.layout (past_of l.state.entries) l.pool) (range_with_len 0 l.index) ≡ None
