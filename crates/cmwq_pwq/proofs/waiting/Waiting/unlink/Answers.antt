use Rattle.cmwq_pwq.proofs.Kept.{unlinked_by_index, unlinked_kept, unlinked_seen}
use Rattle.cmwq_pwq.proofs.waiting.Waiting.unlink.Goals as goal

pub invariant_of-self : goal.invariant_of-self
invariant_of-self c =
    let s = c.self.inside in
    rw (c.remove.ensures.rest, c.remove-2.ensures.rest, c.from-item.ensures)
    (unlinked_kept s.rows s.all s.pwqs c.self.invariant c.args.item.0)

pub returns-clause-rest : goal.returns-clause-rest
returns-clause-rest c =
    let s = c.self.inside in
    rw (c.remove.ensures.rest, c.remove-2.ensures.rest, c.from-item.ensures, ← c.self.view_is)
    (unlinked_seen s.rows s.all s.pwqs c.self.invariant c.args.item.0)

pub returns-clause-by_index : goal.returns-clause-by_index
returns-clause-by_index c =
    let s = c.self.inside in
    rw (c.remove.ensures.rest, c.from-item.ensures, ← c.self.view_is)
    (unlinked_by_index s.rows s.all s.pwqs c.self.invariant c.remove.ensures.once c.args.item.0)
