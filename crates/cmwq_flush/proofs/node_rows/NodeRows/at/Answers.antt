use Rattle.std.proofs.Common.{◌<◌, arith, length}
use Rattle.cmwq_flush.proofs.NodeRowSteps.{node_read, node_within}
use Rattle.cmwq_flush.proofs.node_rows.NodeRows.at.Goals as goal

pub index-number-requires : goal.index-number-requires
index-number-requires c = grind (arith, node_within)

pub index-colour-requires : goal.index-colour-requires
index-colour-requires c = grind (arith, node_within)

pub returns : goal.returns
returns c =
    let s = c.self.inside in
    let low : c.args.node < length s.numbers.items =
    node_within s.numbers.items s.colours.items c.args.node c.self.invariant
    (rw (← c.self.view_is) at c.requires) in
    rw (← c.self.view_is)
    (node_read _ s.numbers.items s.colours.items c.args.node c.self.invariant low c.index-number.ensures
    c.index-colour.ensures)
