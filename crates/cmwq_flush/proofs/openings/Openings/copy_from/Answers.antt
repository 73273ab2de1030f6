use Rattle.cmwq_flush.specs.Common.{◌≡◌, arith, length}
use Rattle.cmwq_flush.specs.Openings.{opened_by}
use Rattle.cmwq_flush.proofs.Copies.{opened-length}
use Rattle.cmwq_flush.proofs.openings.Openings.copy_from.Goals as goal

pub copy_from-requires-clause-items : goal.copy_from-requires-clause-items
copy_from-requires-clause-items c =
    let s = c.self.inside in
    let o = c.other.inside in
    let items : length (opened_by s.lists.lists s.rows s.items) ≡ length (opened_by o.lists.lists o.rows o.items) =
    rw (← c.self.view_is, ← c.other.view_is) at c.requires.items in
    omega (
      arith,
      c.self.invariant.nodes,
      c.other.invariant.nodes,
      opened-length s.lists.lists s.rows s.items,
      opened-length o.lists.lists o.rows o.items,
    )

pub copy_from-requires-2 : goal.copy_from-requires-2
copy_from-requires-2 c =
    let s = c.self.inside in
    let o = c.other.inside in
    let items : length (opened_by s.lists.lists s.rows s.items) ≡ length (opened_by o.lists.lists o.rows o.items) =
    rw (← c.self.view_is, ← c.other.view_is) at c.requires.items in
    omega (
      arith,
      c.self.invariant.many,
      c.other.invariant.many,
      opened-length s.lists.lists s.rows s.items,
      opened-length o.lists.lists o.rows o.items,
    )
