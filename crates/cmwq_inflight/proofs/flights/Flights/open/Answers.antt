use Rattle.cmwq_inflight.specs.Flights.{flights_with_open}
use Rattle.cmwq_inflight.specs.Keeping.{flights_by}
use Rattle.cmwq_inflight.proofs.Upkeep.{room_for_one}
use Rattle.cmwq_inflight.proofs.Steps.{row_within, no_unstarted_key, with_keys, Leaves, opened_leaves}
use Rattle.cmwq_inflight.proofs.flights.Flights.open.Goals as goal
use Rattle.cmwq_inflight.proofs.flights.Flights.open.Goals.{After-index_mut}

pub insert_reserved-key-requires : goal.insert_reserved-key-requires
insert_reserved-key-requires c =
    let slab = c.self.inside.queueings in
    let rows = c.self.inside.rows.items in
    let i = c.args.queueing.item.0 in
    let within = row_within slab rows i (rw (← c.self.view_is) at c.requires.known) in
    room_for_one slab rows i c.self.invariant within
    (no_unstarted_key slab rows i c.self.invariant (rw (← c.self.view_is) at c.requires.none))

leaves : (c : After-index_mut)
    → Leaves c.insert_reserved-key.new.self
    (with_keys c.self.inside.rows.items c.from.result c.index_mut.result.now.run c.some.result)
    (flights_with_open (flights_by c.self.inside.queueings c.self.inside.rows.items) c.args.queueing)
leaves c =
    let slab = c.self.inside.queueings in
    let opens = c.insert_reserved-key.ensures in
    rw c.some.ensures
    (opened_leaves slab c.insert_reserved-key.new.self c.self.inside.rows.items c.from.result
    c.insert_reserved-key.result c.args.queueing c.index_mut.result.now c.self.invariant
    (record { vacant = opens.was_vacant; updates = opens.updates; more = opens.len; capacity = opens.capacity })
    c.from.ensures
    (rw (← c.self.view_is) at c.requires.known)
    c.index_mut.ensures.value
    (rw (← c.self.view_is) at c.requires.none))

pub invariant_of-self : goal.invariant_of-self
invariant_of-self c = (leaves (goal.at.invariant_of-self c).After-index_mut).kept

pub returns : goal.returns
returns c = rw (← c.self.view_is) (leaves (goal.at.returns c).After-index_mut).seen
