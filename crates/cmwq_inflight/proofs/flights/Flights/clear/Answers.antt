use Rattle.std.proofs.Common.{◌≡◌, ◌∙◌, ap, length, replicate, sym, vec_len}
use Rattle.std.proofs.lemmas.List.{length-map}
use Rattle.cmwq_inflight.specs.Flights.{no_flight}
use Rattle.cmwq_inflight.specs.Keeping.{flight_by}
use Rattle.cmwq_inflight.proofs.Steps.{none_at_first}
use Rattle.cmwq_inflight.proofs.flights.Flights.clear.Goals as goal

pub returns : goal.returns
returns c =
    let s = c.self.inside in
    let size : vec_len s.rows ≡ length c.args.self.now =
    s.rows.ok.0 ∙ (sym (length-map s.rows.items (flight_by s.queueings)) ∙ ap length c.self.view_is) in
    rw (c.fill.ensures.items (λ y same. same), c.none.ensures, c.none-2.ensures)
    (none_at_first c.clear.new.self (vec_len s.rows) ∙ ap (λ n. replicate n no_flight) size)
