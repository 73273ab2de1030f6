use Rattle.std.proofs.Common.{◌≡◌, false}
use Rattle.std.specs.List.{list_any, range_with_len}
use Rattle.cmwq_model.specs.Prelude.{past_of}
use Rattle.cmwq_views.specs.Open.{is_open_on}
use Rattle.cmwq_views.proofs.standing.is_open_anywhere.Given as goal

abbrev pub invariant-loop-cpu : goal.invariant-loop-cpu
invariant-loop-cpu l =
    list_any (is_open_on (past_of l.standing.entries) l.number) (range_with_len 0 l.cpu) ≡ false
