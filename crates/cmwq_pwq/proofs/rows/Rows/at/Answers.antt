use Rattle.std.proofs.Common.{◌<◌, arith, length}
use Rattle.cmwq_pwq.proofs.RowSteps.{row_read, row_within}
use Rattle.cmwq_pwq.proofs.rows.Rows.at.Goals as goal

pub overflow_cast-result : goal.overflow_cast-result
overflow_cast-result c = grind (arith, row_within)

pub index-requires : goal.index-requires
index-requires c = grind (arith, row_within)

pub index-number-requires : goal.index-number-requires
index-number-requires c = grind (arith, row_within)

pub returns : goal.returns
returns c =
    let s = c.self.inside in
    let low : c.args.item < length s.numbers.items =
    row_within s.numbers.items s.places.items c.args.item c.self.invariant (rw (← c.self.view_is) at c.requires) in
    rw (← c.self.view_is)
    (row_read _ s.numbers.items s.places.items c.args.item 0 c.self.invariant.many low (omega arith) c.index.ensures
    c.index-number.ensures)
