use Rattle.std.proofs.Common.{◌≡◌, ◌<◌, IfSome, false}
use Rattle.std.specs.List.{list_any, range_with_len}
use Rattle.cmwq_model.specs.Prelude.{past_of}
use Rattle.cmwq_views.specs.Lent.{leads_back, row_after, worker_rows}
use Rattle.cmwq_views.proofs.lent.is_in_circle.Given as goal

abbrev pub invariant-loop : goal.invariant-loop
invariant-loop l =
    let past = past_of l.standing.entries in (l.row ≡ row_after l.standing.layout past l.number l.counter)
    × IfSome l.row (λ k. k < worker_rows l.standing.layout)
    × (list_any (leads_back l.standing.layout past l.number) (range_with_len 0 l.counter) ≡ false)
