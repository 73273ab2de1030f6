use Rattle.std.proofs.Common.{◌≡◌, false}
use Rattle.std.specs.List.{list_any, range_with_len}
use Rattle.cmwq_model.specs.Prelude.{is_idle, past_of}
use Rattle.cmwq_obstacle.proofs.obstacle.is_any_idle.Given as goal

abbrev pub invariant-loop-index : goal.invariant-loop-index
invariant-loop-index l = list_any (is_idle (past_of l.state.entries) l.pool) (range_with_len 0 l.index) ≡ false
