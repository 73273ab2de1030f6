use Rattle.std.proofs.Common.{◌≡◌, find, None}
use Rattle.std.specs.List.{range_with_len}
use Rattle.cmwq_model.specs.Prelude.{past_of}
use Rattle.cmwq_obstacle.specs.Obstacles.{runs_there}
use Rattle.cmwq_obstacle.proofs.places.runner.Given as goal

abbrev pub invariant-loop-index : goal.invariant-loop-index
invariant-loop-index l =
    find (runs_there (past_of l.state.entries) l.place l.pool) (range_with_len 0 l.index) ≡ None
