use Rattle.cmwq_flush.specs.Common.{◌<◌, ℕ, List, length, ◌∙◌, arith}
use Rattle.std.proofs.Common.{ap₂}
use Rattle.cmwq_flush.specs.declared.openings.Row.{Row}
use Rattle.cmwq_flush.specs.Rows.{OpenRows}
use Rattle.cmwq_flush.proofs.Opening.{item_there, node_is, openings_removed, closed_rows, closed_opened, closed_in_one}
use Rattle.cmwq_flush.proofs.Opening.{has_row_of}
use Rattle.cmwq_flush.proofs.openings.Openings.close.Goals as goal

pub node_of-node-requires-clause-there : goal.node_of-node-requires-clause-there
node_of-node-requires-clause-there c =
    let s = c.self.inside in
    let is_open = rw (← c.self.view_is) at c.requires in
    let there = item_there s.lists.lists s.rows s.items c.args.item.0 c.args.number is_open in
    omega (arith, c.self.invariant.nodes)

pub remove-requires : goal.remove-requires
remove-requires c =
    let s = c.self.inside in
    let is_open = rw (← c.self.view_is) at c.requires in
    let chosen = c.node_of-node.ensures in
    let is = node_is s.items s.lists s.rows c.self.invariant c.args.item.0 c.args.number c.node_of-node.result chosen
    is_open in
    c.self.invariant.known c.node_of-node.result is.0

pub at-requires : goal.at-requires
at-requires c =
    let s = c.self.inside in
    let is_open = rw (← c.self.view_is) at c.requires in
    let chosen = c.node_of-node.ensures in
    let is = node_is s.items s.lists s.rows c.self.invariant c.args.item.0 c.args.number c.node_of-node.result chosen
    is_open in
    let low = c.self.invariant.known c.node_of-node.result is.0 in
    omega (arith, low, c.self.invariant.nodes, c.self.invariant.many)

pub invariant_of-self : goal.invariant_of-self
invariant_of-self c =
    let s = c.self.inside in
    let is_open = rw (← c.self.view_is) at c.requires in
    let chosen = c.node_of-node.ensures in
    rw c.remove.ensures.rest
    (openings_removed s.items s.lists s.rows c.self.invariant c.args.item.0 c.args.number c.node_of-node.result
    chosen is_open)

pub returns-clause-closed : goal.returns-clause-closed
returns-clause-closed c = λ q here.
    let s = c.self.inside in
    let i = c.args.item.0 in let n = c.args.number in let v = c.node_of-node.result in
    let is_open = rw (← c.self.view_is) at c.requires in
    let chosen = c.node_of-node.ensures in
    let found = rw (← c.self.view_is) at here in
    rw (c.remove.ensures.rest, ← c.self.view_is)
    (ap₂ (λ (rs : List (List Row)) (os : List (List ℕ)). let o : OpenRows = record { rows = rs; opened = os } in o)
    (closed_rows s.items s.lists s.rows c.self.invariant i n v chosen is_open
    ∙ closed_in_one s.items s.lists s.rows c.self.invariant i n v chosen is_open c.remove.ensures.once q found)
    (closed_opened s.items s.lists s.rows c.self.invariant i n v chosen is_open))

pub returns-clause-colour : goal.returns-clause-colour
returns-clause-colour c = λ q here.
    let s = c.self.inside in
    let i = c.args.item.0 in let n = c.args.number in let v = c.node_of-node.result in
    let is_open = rw (← c.self.view_is) at c.requires in
    let chosen = c.node_of-node.ensures in
    let found = rw (← c.self.view_is) at here in
    let is_it = node_is s.items s.lists s.rows c.self.invariant i n v chosen is_open in
    let low : v < length s.rows = let l = c.self.invariant.known v is_it.0 in
    omega (arith, c.self.invariant.nodes, c.self.invariant.many) in
    rw (← c.self.view_is, c.at.ensures)
    (has_row_of s.items s.lists s.rows c.self.invariant i n v chosen is_open c.remove.ensures.once q found)
