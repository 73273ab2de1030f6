use Rattle.std.proofs.Common.{◌≡◌, find, None}
use Rattle.std.specs.List.{range_with_len}
use Rattle.cmwq_model.specs.Prelude.{past_of}
use Rattle.cmwq_views.specs.Lent.{is_queued_as}
use Rattle.cmwq_views.proofs.lent.item_queued.Given as goal

abbrev pub invariant-loop-number : goal.invariant-loop-number
invariant-loop-number l =
    find (is_queued_as (past_of l.standing.entries) l.queueing) (range_with_len 0 l.number) ≡ None
