use Rattle.std.proofs.Common.{◌-◌, subst}
use Rattle.cmwq_model.specs.Prelude.{past_of}
use Rattle.std.specs.List.{range_with_len}
use Rattle.cmwq_obstacle.specs.Firsts.{AreFirstsOf}
use Rattle.cmwq_obstacle.proofs.FirstItems.{item_before}
use Rattle.cmwq_obstacle.proofs.firsts.Firsts.new.Goals as goal

pub loop-put_so_far-preserved : goal.loop-put_so_far-preserved
loop-put_so_far-preserved c =
    let items = c.counts-items.result.items in
    let done = c.loop-put_so_far.put_so_far in
    subst (λ numbers. AreFirstsOf c.args.state.now.layout (past_of c.args.state.now.entries) numbers c.put.new.rows.items)
    (item_before items done c.loop-put_so_far-test.true)
    (c.put.ensures (range_with_len (items - done) done) c.loop-put_so_far.invariant)
