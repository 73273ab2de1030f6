use Rattle.cmwq_list.proofs.Unlinking.{unlinked, unlinked_lists}
use Rattle.cmwq_list.proofs.links.unlink.Goals as goal

pub returns-clause-linked : goal.returns-clause-linked
returns-clause-linked c =
    simp (c.link.ensures.next, c.link.ensures.prev, c.from.ensures)
    (unlinked c.args.next.now c.args.prev.now c.args.owners.now c.args.lens.now c.args.item c.requires.linked
    c.requires.item c.requires.listed)

pub returns-clause-lists : goal.returns-clause-lists
returns-clause-lists c =
    simp (c.link.ensures.next, c.link.ensures.prev, c.from.ensures)
    (unlinked_lists c.args.next.now c.args.prev.now c.args.owners.now c.args.lens.now c.args.item c.requires.linked
    c.requires.item c.requires.listed)
