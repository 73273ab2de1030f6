use Rattle.cmwq_inflight.proofs.Steps.{none_at_first}
use Rattle.cmwq_inflight.proofs.flights.Flights.new.Goals as goal

pub returns : goal.returns
returns c =
    rw (
      c.in_ok-rows.ensures.items_if_clones_equal (λ y same. same),
      c.from-items.ensures,
      c.none.ensures,
      c.none-2.ensures,
    ) (search none_at_first)
