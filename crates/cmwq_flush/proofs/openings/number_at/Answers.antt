use Rattle.cmwq_flush.specs.Common.{◌≡◌, Some, true, false, is_some, sym, ap, ◌∙◌}
use Rattle.cmwq_flush.specs.Rows.{number_of_row}
use Rattle.cmwq_flush.specs.Openings.{is_node_listed}
use Rattle.cmwq_flush.proofs.Nodes.{listed_found}
use Rattle.cmwq_flush.proofs.NodeNumbers.{number_at_listed, number_at_free}
use Rattle.cmwq_flush.proofs.openings.number_at.Goals as goal

pub returns-then-is_some : goal.returns-then-is_some
returns-then-is_some c =
    let lists = c.args.lists.now.lists in
    let some : is_node_listed lists c.args.node ≡ true = sym (listed_found lists c.args.node)
    ∙ sym (ap is_some c.list_of.ensures) ∙ sym c.is_some.ensures ∙ c.if-is_some.true in
    ap (λ r. Some (number_of_row r)) c.at.ensures ∙ sym (number_at_listed lists c.args.rows.now c.args.node some)

pub returns-else-is_some : goal.returns-else-is_some
returns-else-is_some c =
    let lists = c.args.lists.now.lists in
    let none : is_node_listed lists c.args.node ≡ false = sym (listed_found lists c.args.node)
    ∙ sym (ap is_some c.list_of.ensures) ∙ sym c.is_some.ensures ∙ c.if-is_some.false in
    sym (number_at_free lists c.args.rows.now c.args.node none)
