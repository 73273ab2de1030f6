use Rattle.cmwq_state.specs.Common.{get_or, All-get_or, Queueing}
use Rattle.cmwq_state.specs.Tables.{IsListable}
use Rattle.cmwq_state.proofs.Listing.{may_list_next}
use Rattle.cmwq_state.proofs.tables.list_active.Goals as goal

abbrev no_one : Queueing
no_one = record {
  item = record { 0 = 0 };
  place = record { queue = record { 0 = 0 }; cpu = record { 0 = 0 } };
  number =
      0;
}

pub list_one-requires : goal.list_one-requires
list_one-requires c =
    let xs = c.args.activated.now in let i = c.loop-queueing.queueing-index in
    let there : IsListable c.args.queues.now c.args.pools.now (get_or xs i no_one) =
    All-get_or (IsListable c.args.queues.now c.args.pools.now) xs i no_one c.loop-queueing-test.true
    c.requires.there in
    may_list_next c.args.queues.now c.args.pools.now c.loop-queueing.pools xs i c.loop-queueing.invariant.applied no_one
    c.loop-queueing-test.true (there.0, rw c.loop-queueing.invariant.applied.many there.1)
    c.loop-queueing.invariant.may c.requires.once
