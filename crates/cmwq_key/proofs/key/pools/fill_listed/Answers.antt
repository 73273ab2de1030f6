use Rattle.std.proofs.Common.{◌∙◌, ap, length, sym}
use Rattle.std.specs.Prelude.{slice_get}
use Rattle.cmwq_model.specs.Prelude.{past_of, worklist}
use Rattle.cmwq_key.proofs.Gathering.{all_taken, listed_there, listing_goes_on}
use Rattle.cmwq_key.proofs.key.pools.fill_listed.Goals as goal

pub listed_after-next-requires-clause-item : goal.listed_after-next-requires-clause-item
listed_after-next-requires-clause-item c =
    listed_there c.args.state.now.layout (past_of c.args.state.now.entries) c.args.pool (length c.loop-next.list.items)
    c.in-Some.queueing c.len-length.ensures.legal (sym c.loop-next.invariant.next ∙ c.in-Some.is)

pub loop-next-preserved : goal.loop-next-preserved
loop-next-preserved c =
    let all = worklist c.args.state.now.layout (past_of c.args.state.now.entries) c.args.pool in
    let here = sym c.loop-next.invariant.next ∙ c.in-Some.is in
    let k =
    listing_goes_on all c.loop-next.list.items c.push.new.self.items c.in-Some.queueing c.loop-next.invariant.list here
    c.in_ok-push.ensures.items in
    record {
      list = k.0;
      next = c.listed_after-next.ensures (length c.loop-next.list.items) here ∙ ap (slice_get all) (sym k.1);
    }

pub returns : goal.returns
returns c =
    let all = worklist c.args.state.now.layout (past_of c.args.state.now.entries) c.args.pool in
    c.loop-next.invariant.list
    ∙ all_taken all (length c.loop-next.list.items) (sym c.loop-next.invariant.next ∙ c.in_default.is)
