use Rattle.std.proofs.Common.{sym, ap, ◌∙◌, not}
use Rattle.cmwq_list.specs.Lists.{list_at}
use Rattle.cmwq_pool.specs.Slots.{slots_run_item}
use Rattle.cmwq_list.proofs.Walking.{has_there, found_here, left_more}
use Rattle.cmwq_pool.proofs.listing.first_free.Goals as goal

pub returns-then-not-run_item-clause-first : goal.returns-then-not-run_item-clause-first
returns-then-not-run_item-clause-first c =
    let xs = list_at c.args.lists.now.lists c.args.list in
    found_here (λ i. not (slots_run_item c.args.workers.now i)) xs c.loop-index.index c.in_ok-item.item
    (sym c.loop-index.invariant.here ∙ c.in_ok-item.was) c.loop-index.invariant.left
    (ap not (sym c.run_item.ensures ∙ c.if-not-run_item.true))

pub next-at-requires : goal.next-at-requires
next-at-requires c =
    let xs = list_at c.args.lists.now.lists c.args.list in
    c.len-index-end.ensures.once.known c.in_ok-item.item c.args.list
    (has_there xs c.loop-index.index c.in_ok-item.item (sym c.loop-index.invariant.here ∙ c.in_ok-item.was))

pub loop-index-preserved : goal.loop-index-preserved
loop-index-preserved c =
    let xs = list_at c.args.lists.now.lists c.args.list in
    let at = sym c.loop-index.invariant.here ∙ c.in_ok-item.was in
    record {
      here = c.next-at.ensures c.args.list c.loop-index.index at;
      left = left_more (λ i. not (slots_run_item c.args.workers.now i)) xs c.loop-index.index c.in_ok-item.item at
          c.loop-index.invariant.left (ap not (sym c.run_item.ensures ∙ c.if-not-run_item.false));
    }
