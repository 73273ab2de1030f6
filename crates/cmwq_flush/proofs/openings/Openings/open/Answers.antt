use Rattle.cmwq_flush.specs.Common.{◌<◌, ℕ, List, length, map, arith, All, length-map}
use Rattle.std.proofs.Common.{ap₂}
use Rattle.cmwq_flush.specs.declared.openings.Row.{Row}
use Rattle.cmwq_flush.specs.Rows.{OpenRows, rows_at}
use Rattle.cmwq_flush.specs.ItemNumbers.{numbers_open}
use Rattle.cmwq_flush.specs.Openings.{node_row, numbers_of_nodes, opened_by, rows_of_nodes}
use Rattle.cmwq_flush.proofs.Nodes.{not_listed, rows-pushed, listed_below}
use Rattle.cmwq_flush.proofs.NodeNumbers.{item_inside, opened_at}
use Rattle.cmwq_flush.proofs.Opening.{free_listed, chosen_low, opened-pushed, openings-pushed}
use Rattle.cmwq_flush.proofs.openings.Openings.open.Goals as goal

few_by : (lists : List (List ℕ)) (rows : List Row) (items i : ℕ) → i < items
    → length (numbers_open (opened_by lists rows items) i) < 2 → length (numbers_of_nodes lists rows i) < 2
few_by lists rows items i there few = rw (opened_at lists rows items i there) at few

pub free_node-node-requires : goal.free_node-node-requires
free_node-node-requires c =
    let s = c.self.inside in
    let there = item_inside s.lists.lists s.rows s.items c.args.item.0 (rw (← c.self.view_is) at c.requires.item) in
    omega (arith, c.self.invariant.nodes)

pub put-requires : goal.put-requires
put-requires c =
    let s = c.self.inside in
    let there = item_inside s.lists.lists s.rows s.items c.args.item.0 (rw (← c.self.view_is) at c.requires.item) in
    let few = few_by s.lists.lists s.rows s.items c.args.item.0 there (rw (← c.self.view_is) at c.requires.free) in
    let low =
    chosen_low s.lists.lists s.rows s.items c.args.item.0 c.free_node-node.result there c.free_node-node.ensures
    few in
    omega (arith, low, c.self.invariant.many)

pub push_back-requires-clause-item : goal.push_back-requires-clause-item
push_back-requires-clause-item c =
    let s = c.self.inside in
    let there = item_inside s.lists.lists s.rows s.items c.args.item.0 (rw (← c.self.view_is) at c.requires.item) in
    let few = few_by s.lists.lists s.rows s.items c.args.item.0 there (rw (← c.self.view_is) at c.requires.free) in
    let low =
    chosen_low s.lists.lists s.rows s.items c.args.item.0 c.free_node-node.result there c.free_node-node.ensures
    few in
    omega (arith, c.self.invariant.nodes)

pub push_back-requires-clause-free : goal.push_back-requires-clause-free
push_back-requires-clause-free c =
    let s = c.self.inside in
    let there = item_inside s.lists.lists s.rows s.items c.args.item.0 (rw (← c.self.view_is) at c.requires.item) in
    let few = few_by s.lists.lists s.rows s.items c.args.item.0 there (rw (← c.self.view_is) at c.requires.free) in
    not_listed s.lists.lists c.free_node-node.result
    (free_listed s.lists.lists s.rows s.items c.args.item.0 c.free_node-node.result there c.free_node-node.ensures
    few)

pub invariant_of-self : goal.invariant_of-self
invariant_of-self c =
    let s = c.self.inside in
    let v = c.free_node-node.result in
    let there = item_inside s.lists.lists s.rows s.items c.args.item.0 (rw (← c.self.view_is) at c.requires.item) in
    let few = few_by s.lists.lists s.rows s.items c.args.item.0 there (rw (← c.self.view_is) at c.requires.free) in
    let low = chosen_low s.lists.lists s.rows s.items c.args.item.0 v there c.free_node-node.ensures few in
    let free = free_listed s.lists.lists s.rows s.items c.args.item.0 v there c.free_node-node.ensures few in
    let below : (l : ℕ)
    → All (λ (r : Row). r.number < c.args.row.number) (rows_at (rows_of_nodes s.lists.lists s.rows) l) =
    rw (← c.self.view_is) at c.requires.latest in
    let many : c.from.result < length s.lists.lists =
    let q : c.args.queue.0 < length (rows_of_nodes s.lists.lists s.rows) =
    rw (← c.self.view_is) at c.requires.queue in let size = length-map s.lists.lists (map (node_row s.rows)) in
    omega (arith, c.from.ensures) in
    rw (c.push_back.ensures, c.put.ensures)
    (openings-pushed s.items s.lists s.rows c.from.result v c.args.row c.self.invariant many
    (omega (arith, c.self.invariant.nodes)) free
    (λ w h. listed_below s.lists.lists s.rows c.args.row.number w below h))

pub returns : goal.returns
returns c =
    let s = c.self.inside in
    let v = c.free_node-node.result in let i = c.args.item.0 in
    let there = item_inside s.lists.lists s.rows s.items c.args.item.0 (rw (← c.self.view_is) at c.requires.item) in
    let few = few_by s.lists.lists s.rows s.items c.args.item.0 there (rw (← c.self.view_is) at c.requires.free) in
    let low = chosen_low s.lists.lists s.rows s.items i v there c.free_node-node.ensures few in
    let free = free_listed s.lists.lists s.rows s.items i v there c.free_node-node.ensures few in
    let below : (l : ℕ)
    → All (λ (r : Row). r.number < c.args.row.number) (rows_at (rows_of_nodes s.lists.lists s.rows) l) =
    rw (← c.self.view_is) at c.requires.latest in
    let lt : c.args.queue.0 < length s.lists.lists =
    let q : c.args.queue.0 < length (rows_of_nodes s.lists.lists s.rows) =
    rw (← c.self.view_is) at c.requires.queue in let size = length-map s.lists.lists (map (node_row s.rows)) in
    omega arith in
    let many = c.self.invariant.many in
    rw (c.push_back.ensures, c.put.ensures, c.from.ensures, ← c.self.view_is)
    (ap₂ (λ (rs : List (List Row)) (os : List (List ℕ)). let o : OpenRows = record { rows = rs; opened = os } in o)
    (rows-pushed s.lists.lists s.rows c.args.queue.0 v c.args.row lt (omega arith) free)
    (opened-pushed s.lists.lists s.rows s.items i v there c.free_node-node.ensures few c.args.queue.0 c.args.row lt many
    (λ w h. listed_below s.lists.lists s.rows c.args.row.number w below h)))
