use Rattle.std.proofs.Common.{arith}
use Rattle.cmwq_list.proofs.Rings.{few_items}
use Rattle.cmwq_list.proofs.Linking.{back_linked, back_lists}
use Rattle.cmwq_list.proofs.links.link_back.Goals as goal

pub overflow_add-lens : goal.overflow_add-lens
overflow_add-lens c = let r = c.requires in let a = r.linked.many in let b = r.linked.few in let d = r.list in let few =
    few_items _ _ _ _ r.linked c.args.list r.list in rw c.from-2.ensures (omega arith)

pub returns-clause-linked : goal.returns-clause-linked
returns-clause-linked c =
    simp (
      c.link-2.ensures.next,
      c.link-2.ensures.prev,
      c.link.ensures.next,
      c.link.ensures.prev,
      c.from.ensures,
      c.from-2.ensures,
    )
    (back_linked c.args.next.now c.args.prev.now c.args.owners.now c.args.lens.now c.args.list c.args.item
    c.requires.linked c.requires.list c.requires.item c.requires.free)

pub returns-clause-lists : goal.returns-clause-lists
returns-clause-lists c =
    simp (
      c.link-2.ensures.next,
      c.link-2.ensures.prev,
      c.link.ensures.next,
      c.link.ensures.prev,
      c.from.ensures,
      c.from-2.ensures,
    )
    (back_lists c.args.next.now c.args.prev.now c.args.owners.now c.args.lens.now c.args.list c.args.item
    c.requires.linked c.requires.list c.requires.item c.requires.free)
