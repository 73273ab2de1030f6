use Rattle.std.proofs.Common.{arith}
use Rattle.std.proofs.lemmas.List.{ext_get_or}
use Rattle.cmwq_inflight.specs.Flights.{no_flight}
use Rattle.cmwq_inflight.proofs.flights.Flights.copy_from.Goals as goal

pub returns : goal.returns
returns c =
    let last = c.loop-number in
    ext_get_or no_flight last.self c.args.other.now last.invariant.many
    (λ i low. last.invariant.copied i (omega (arith, low, last.invariant.many)))
