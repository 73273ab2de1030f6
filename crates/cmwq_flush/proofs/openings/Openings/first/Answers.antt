use Rattle.cmwq_flush.specs.Common.{◌≡◌, ◌<◌, Some, length, sym, ap, ◌∙◌, arith, slice_get}
use Rattle.cmwq_list.specs.Lists.{list_at}
use Rattle.cmwq_flush.specs.Rows.{number_of_row, row_numbers}
use Rattle.cmwq_flush.proofs.Nodes.{rows_at-of, first_in, first_listed}
use Rattle.cmwq_flush.proofs.openings.Openings.first.Goals as goal

pub at-requires : goal.at-requires
at-requires c =
    let s = c.self.inside in
    let there : Some c.in_ok-node.node ≡ slice_get (list_at s.lists.lists c.args.queue.0) 0 =
    rw c.from.ensures at c.in_ok-node.ensures in
    let low =
    c.self.invariant.known c.in_ok-node.node (first_listed s.lists.lists c.args.queue.0 c.in_ok-node.node there) in
    omega (arith, low, c.self.invariant.nodes, c.self.invariant.many)

pub returns : goal.returns
returns c =
    let s = c.self.inside in
    let there : Some c.in_ok-node.node ≡ slice_get (list_at s.lists.lists c.args.queue.0) 0 =
    rw c.from.ensures at c.in_ok-node.ensures in
    let low : c.in_ok-node.node < length s.rows = let l =
    c.self.invariant.known c.in_ok-node.node (first_listed s.lists.lists c.args.queue.0 c.in_ok-node.node there) in
    omega (arith, c.self.invariant.nodes, c.self.invariant.many) in
    rw (← c.self.view_is)
    (ap (λ r. Some (number_of_row r)) c.at.ensures
    ∙ sym (ap (λ rs. slice_get (row_numbers rs) 0) (rows_at-of s.lists.lists s.rows c.args.queue.0)
    ∙ first_in s.rows (list_at s.lists.lists c.args.queue.0) c.in_ok-node.node there))
