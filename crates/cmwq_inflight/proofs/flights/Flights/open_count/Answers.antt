use Rattle.std.proofs.Common.{◌∙◌}
use Rattle.cmwq_inflight.proofs.Upkeep.{open_are_held}
use Rattle.cmwq_inflight.proofs.flights.Flights.open_count.Goals as goal

pub returns : goal.returns
returns c =
    rw (← c.self.view_is)
    (c.len.ensures ∙ open_are_held c.self.inside.queueings c.self.inside.rows.items c.self.invariant)
