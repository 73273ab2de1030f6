use Rattle.std.proofs.Common.{◌≡◌, find, None}
use Rattle.std.specs.List.{range_with_len}
use Rattle.cmwq_model.specs.Prelude.{past_of}
use Rattle.cmwq_views.specs.Lent.{runs_number}
use Rattle.cmwq_views.proofs.lent.row_running.Given as goal

abbrev pub invariant-loop-number : goal.invariant-loop-number
invariant-loop-number l =
    find (runs_number l.standing.layout (past_of l.standing.entries) l.queueing) (range_with_len 0 l.number) ≡ None
