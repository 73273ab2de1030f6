use Rattle.cmwq_flush.specs.Common.{sym, ◌∙◌, arith}
use Rattle.std.proofs.lemmas.Bool.{lt-leb}
use Rattle.cmwq_list.specs.Lists.{list_at}
use Rattle.cmwq_flush.specs.Overflow.{is_from, ticket_of_node}
use Rattle.cmwq_list.proofs.Walking.{has_there, found_here, left_more}
use Rattle.cmwq_flush.proofs.overflow.first_from.Goals as goal

pub bounds-tickets-node : goal.bounds-tickets-node
bounds-tickets-node c =
    let xs = list_at c.args.lists.now.lists c.args.list in
    let known =
    c.len-index-end.ensures.once.known c.in_ok-node.node c.args.list
    (has_there xs c.loop-index.index c.in_ok-node.node (sym c.loop-index.invariant.here ∙ c.in_ok-node.was)) in
    omega (arith, c.requires.many)

pub returns-then-ticket-tickets-clause-first : goal.returns-then-ticket-tickets-clause-first
returns-then-ticket-tickets-clause-first c = grind (arith, found_here)

pub next-at-requires : goal.next-at-requires
next-at-requires c =
    let xs = list_at c.args.lists.now.lists c.args.list in
    c.len-index-end.ensures.once.known c.in_ok-node.node c.args.list
    (has_there xs c.loop-index.index c.in_ok-node.node (sym c.loop-index.invariant.here ∙ c.in_ok-node.was))

pub loop-index-preserved : goal.loop-index-preserved
loop-index-preserved c =
    let xs = list_at c.args.lists.now.lists c.args.list in
    let at = sym c.loop-index.invariant.here ∙ c.in_ok-node.was in
    record {
      here = c.next-at.ensures c.args.list c.loop-index.index at;
      left = left_more (is_from c.args.tickets.now c.args.ticket) xs c.loop-index.index c.in_ok-node.node at
          c.loop-index.invariant.left
          (lt-leb c.args.ticket (ticket_of_node c.args.tickets.now c.in_ok-node.node) c.if-ticket-tickets.false);
    }
